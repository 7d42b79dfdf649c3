use Rattle.std.proofs.Common.{◌<◌, length, sym, ap, ◌∙◌, arith}
use Rattle.std.proofs.lemmas.Bool.{eqb-false}
use Rattle.tasks.specs.Tables.{sealed}
use Rattle.optimality.specs.Tests.{Laws}
use Rattle.planning.specs.Walk.{table_in}
use Rattle.planning.proofs.Next.{count_is, cores_range}
use Rattle.planning.proofs.Start.{going_start}
use Rattle.planning.proofs.plan.Goals as goal

pub loop-init : goal.loop-init
loop-init g c =
    let s = c.new-walk.result in
    let x = s.test.now in
    let laws : Laws (g.C.CoreTest.accepts x) (g.C.CoreTest.limit x) = record { lighter = g.met.C.CoreTest.lighter x; longer = g.met.C.CoreTest.longer x; fewer = g.met.C.CoreTest.fewer x } in
    let stored = c.tasks.result.now in
    let some : 0 < length (table_in s).tasks = omega (arith, eqb-false (length stored) 0 (sym c.is_empty.ensures ∙ c.if-is_empty.false), count_is (sealed c.args.table.now) stored c.tasks.ensures, ap (λ t. length (sealed t).tasks) c.new-walk.ensures.table) in
    record { table = c.new-walk.ensures.table; test = c.new-walk.ensures.test; going = going_start laws s c.new-walk.ensures.starts (cores_range (table_in s) s.table.now.table.rules).0 some }

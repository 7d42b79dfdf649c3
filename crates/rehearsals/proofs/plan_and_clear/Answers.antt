use Rattle.std.proofs.Common.{sym, subst}
use Rattle.tasks.specs.Tables.{sealed}
use Rattle.bounded.specs.Lists.{list_of}
use Rattle.coretests.specs.Edf.{EdfAccepts, edf_limit}
use Rattle.plans.specs.Plans.{Lawful}
use Rattle.optimality.proofs.Pile.{lawful_under}
use Rattle.rehearsals.proofs.plan_and_clear.Goals as goal

pub unreachable-requires : goal.unreachable-requires
unreachable-requires g c =
    let x = c.args.test.now in
    let table = sealed c.args.table.now in
    let rows = list_of c.in_ok-planned.planned.rows in
    let lawful = lawful_under (g.P.CoreTest.accepts x) EdfAccepts (g.P.CoreTest.limit x) edf_limit (g.met.P.EdfPile.no_laxer x) (g.met.P.EdfPile.no_longer x) table rows c.in_ok-planned.ensures.0.lawful in
    c.in-Err.ensures.0 (subst (Lawful EdfAccepts edf_limit table) (sym c.as_slice.ensures.value) lawful)

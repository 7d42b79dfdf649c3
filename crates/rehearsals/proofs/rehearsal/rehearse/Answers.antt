use Rattle.std.proofs.Common.{sym, subst}
use Rattle.tasks.specs.Tables.{sealed}
use Rattle.bounded.specs.Lists.{list_of}
use Rattle.coretests.specs.Edf.{EdfAccepts, edf_limit}
use Rattle.plans.specs.Plans.{Lawful}
use Rattle.optimality.proofs.Pile.{lawful_under}
use Rattle.rehearsals.specs.Promises.{RunsInTime}
use Rattle.rehearsals.proofs.rehearsal.rehearse.Goals as goal

pub run_plan-ran-requires : goal.run_plan-ran-requires
run_plan-ran-requires g c =
    let x = c.args.pile.now in
    let table = sealed c.args.table.now in
    let rows = list_of c.in-Ok.made.rows in
    subst (Lawful EdfAccepts edf_limit table) (sym c.as_slice.ensures.value)
    (lawful_under (g.P.CoreTest.accepts x) EdfAccepts (g.P.CoreTest.limit x) edf_limit (g.met.P.EdfPile.no_laxer x) (g.met.P.EdfPile.no_longer x) table rows c.in-Ok.ensures.0.lawful)

pub returns-in-Ok : goal.returns-in-Ok
returns-in-Ok g c =
    let x = c.args.pile.now in
    let table = sealed c.args.table.now in
    let rows = list_of c.in-Ok.made.rows in
    record {
      cheapest = c.plan-planned.ensures;
      accepted = (c.in-Ok.ensures, lawful_under (g.P.CoreTest.accepts x) EdfAccepts (g.P.CoreTest.limit x) edf_limit (g.met.P.EdfPile.no_laxer x) (g.met.P.EdfPile.no_longer x) table rows c.in-Ok.ensures.0.lawful);
      never_late = subst (λ r. RunsInTime table r c.args.start c.args.calls.now c.args.log.now c.run_plan-ran.result c.run_plan-ran.new.log) c.as_slice.ensures.value c.run_plan-ran.ensures;
    }

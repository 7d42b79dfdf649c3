use Rattle.tasks.specs.Tables.{sealed}
use Rattle.cabinet.specs.Cabinets.{state}
use Rattle.rehearsals.proofs.Rehearsals.{runs_in_time}
use Rattle.rehearsals.proofs.rehearsal.run_plan.Goals as goal

pub returns : goal.returns
returns c =
    let kept = c.in-Ok.ensures in
    runs_in_time (sealed c.args.table.now) c.args.rows.now c.args.start c.clear.new.cleared (state c.load.result) (state c.run.new.self) c.args.calls.now c.args.log.now c.run.new.log c.run.result
    kept.1 kept.2 c.load.ensures c.run.ensures

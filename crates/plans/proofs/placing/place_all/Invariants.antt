use Rattle.std.specs.Slice.Iter.{iter_rest}
use Rattle.std.specs.Iterator.Adapters.{zip_first, zip_second}
use Rattle.bounded.specs.Lists.{list_of}
use Rattle.tasks.specs.Stored.{tasks_of}
use Rattle.tasks.specs.Tables.{sealed}
use Rattle.plans.proofs.Places.{RangedPlacing}
use Rattle.plans.proofs.placing.place_all.Given as goal

abbrev pub invariant-loop-task : goal.invariant-loop-task
invariant-loop-task l = RangedPlacing (sealed l.table) l.rows (list_of l.all) (tasks_of (iter_rest (zip_first l.task-iterator))) (iter_rest (zip_second l.task-iterator))

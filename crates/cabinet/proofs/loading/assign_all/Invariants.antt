use Rattle.std.proofs.Common.{◌≡◌, true}
use Rattle.std.specs.Slice.Iter.{iter_rest}
use Rattle.std.specs.Iterator.Adapters.{zip_first, zip_second}
use Rattle.bounded.specs.Lists.{list_of}
use Rattle.tasks.specs.Tasks.{every, in_range}
use Rattle.tasks.specs.Stored.{tasks_of}
use Rattle.tasks.specs.Tables.{sealed}
use Rattle.machine.proofs.Assigning.{Assigns}
use Rattle.cabinet.proofs.loading.assign_all.Given as goal

-- the tasks that are left are in range, and still to be assigned
abbrev pub invariant-loop-task : goal.invariant-loop-task
invariant-loop-task l =
    (every in_range (tasks_of (iter_rest (zip_first l.task-iterator))) ≡ true)
    × Assigns (sealed l.table).tasks l.rows (list_of l.all) (tasks_of (iter_rest (zip_first l.task-iterator))) (iter_rest (zip_second l.task-iterator))

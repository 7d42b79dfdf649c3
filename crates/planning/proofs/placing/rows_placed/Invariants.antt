use Rattle.std.proofs.Common.{◌≡◌, take}
use Rattle.bounded.specs.Lists.{list_of}
use Rattle.plans.specs.Plans.{rows_placed}
use Rattle.planning.proofs.placing.rows_placed.Given as goal

abbrev pub invariant-loop-task : goal.invariant-loop-task
invariant-loop-task l = list_of l.rows ≡ rows_placed (take l.task-index l.task-items)

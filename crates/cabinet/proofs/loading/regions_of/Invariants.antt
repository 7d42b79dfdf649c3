use Rattle.std.proofs.Common.{◌≡◌, ◌++◌}
use Rattle.bounded.specs.Lists.{list_of}
use Rattle.tasks.specs.Cuts.{regions}
use Rattle.tasks.specs.Stored.{task_of}
use Rattle.cuts.specs.Walk.{regions_left}
use Rattle.cabinet.proofs.loading.regions_of.Given as goal

abbrev pub invariant-loop-length : goal.invariant-loop-length
invariant-loop-length l = list_of l.lengths ++ regions_left l.length-iterator ≡ regions (task_of l.task) l.cuts

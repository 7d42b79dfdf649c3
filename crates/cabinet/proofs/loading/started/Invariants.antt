use Rattle.std.proofs.Common.{◌≡◌, map, take}
use Rattle.bounded.specs.Lists.{list_of}
use Rattle.machine.specs.Slots.{unreleased}
use Rattle.cabinet.proofs.loading.started.Given as goal

abbrev pub invariant-loop-task : goal.invariant-loop-task
invariant-loop-task l = list_of l.slots ≡ map unreleased (take l.task-index l.task-items)

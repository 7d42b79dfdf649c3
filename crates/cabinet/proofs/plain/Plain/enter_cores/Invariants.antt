use Rattle.std.proofs.Common.{◌≡◌, ◌+◌, ◌-◌, ◌≤◌}
use Rattle.bounded.specs.Lists.{list_of}
use Rattle.machine.specs.Slots.{enter_all}
use Rattle.cabinet.specs.States.{state_of, with_slots}
use Rattle.cabinet.proofs.plain.Plain.enter_cores.Given as goal

abbrev pub invariant-loop-core : goal.invariant-loop-core
invariant-loop-core l =
    (state_of l.self ≡ with_slots (state_of l.initial.self) (enter_all (l.core - 1) (list_of l.initial.self.slots)))
    × (l.core ≤ l.initial.self.cores + 1)

use Rattle.std.proofs.Common.{◌≡◌, ◌+◌, ◌-◌, ◌≤◌}
use Rattle.bounded.specs.Lists.{list_of}
use Rattle.machine.specs.Slots.{row_of}
use Rattle.cabinet.proofs.plain.Plain.row.Given as goal

abbrev pub invariant-loop-core : goal.invariant-loop-core
invariant-loop-core l = (list_of l.row ≡ row_of (l.core - 1) (list_of l.self.slots)) × (l.core ≤ l.self.cores + 1)

use Rattle.std.proofs.Common.{◌≡◌, map, take, drop}
use Rattle.machine.specs.Machine.{reply_of, finally, answers}
use Rattle.cabinet.specs.Cabinets.{state}
use Rattle.cabinet.proofs.cabinet.Cabinet.run.Given as goal

abbrev pub invariant-loop-i : goal.invariant-loop-i
invariant-loop-i l =
    (state l.self ≡ finally (state l.initial.self) (take l.i l.calls))
    × (map reply_of (take l.i l.log) ≡ answers (state l.initial.self) (take l.i l.calls))
    × (drop l.i l.log ≡ drop l.i l.initial.log)

use Rattle.std.proofs.Common.{◌≡◌, ◌+◌, take}
use Rattle.coretests.specs.Edf.{demand}
use Rattle.coretests.proofs.sound_list.SoundList.demand_within.Given as goal

-- the demand of the first entries, and what it leaves of t
abbrev pub invariant-loop-e : goal.invariant-loop-e
invariant-loop-e l = l.left + demand (take l.e-index l.self.entries.now) l.t ≡ l.t

use Rattle.std.proofs.Common.{◌≡◌, ◌+◌, take}
use Rattle.coretests.specs.FixedPriority.{workload}
use Rattle.coretests.proofs.sound_list.SoundList.workload_within.Given as goal

-- the work of the first entries, and what it leaves of the deadline
abbrev pub invariant-loop-x : goal.invariant-loop-x
invariant-loop-x l = l.left + workload (take l.x-index (take l.k l.self.entries.now)) l.e l.t ≡ l.e.deadline

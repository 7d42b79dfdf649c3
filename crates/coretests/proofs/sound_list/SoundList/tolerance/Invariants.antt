use Rattle.std.proofs.Common.{◌+◌, ◌-◌, take, slice_index_or}
use Rattle.coretests.specs.Soundness.{blank}
use Rattle.coretests.proofs.Found.{Searched}
use Rattle.coretests.proofs.sound_list.SoundList.tolerance.Given as goal

abbrev pub invariant-loop-t : goal.invariant-loop-t
invariant-loop-t l = Searched (take l.k l.self.entries.now) (slice_index_or l.self.entries.now l.k blank) l.found l.t

abbrev pub decreases-loop-t : goal.decreases-loop-t
decreases-loop-t l = l.deadline + 1 - l.t

use Rattle.std.proofs.Common.{◌≡◌, ◌*◌, ◌<◌, ◌≤◌, take, sum_by}
use Rattle.coretests.proofs.DemandLine.{share, lead_of}
use Rattle.coretests.proofs.sound_list.SoundList.last_tight.Given as goal

-- the sums of the first entries
abbrev pub invariant-loop-x : goal.invariant-loop-x
invariant-loop-x l =
    (l.work ≡ sum_by (share l.self.span) (take l.x-index l.self.entries.now))
    × (l.lead ≡ sum_by (lead_of l.self.span) (take l.x-index l.self.entries.now))
    × (l.work < l.self.span) × (l.lead ≤ l.work * 1000000)

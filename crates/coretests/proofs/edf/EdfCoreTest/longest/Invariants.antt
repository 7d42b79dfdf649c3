use Rattle.std.proofs.Common.{◌≡◌, ◌+◌, ◌-◌, ◌≤◌, Some}
use Rattle.coretests.specs.Limits.{lesser, least}
use Rattle.coretests.specs.Edf.{slack, edf_limit}
use Rattle.coretests.proofs.edf.EdfCoreTest.longest.Given as goal

-- the least slack so far and those left give the limit
abbrev pub invariant-loop-best : goal.invariant-loop-best
invariant-loop-best l =
    (1 ≤ l.first) × (lesser (Some l.best) (least (slack l.list.entries.now) l.first (l.t + 1 - l.first)) ≡ edf_limit l.fn.list l.d)

abbrev pub decreases-loop-best : goal.decreases-loop-best
decreases-loop-best l = l.t

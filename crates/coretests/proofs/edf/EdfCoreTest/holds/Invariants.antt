use Rattle.std.proofs.Common.{◌≡◌, ℕ, ◌<◌, ◌≤◌, take}
use Rattle.coretests.specs.Edf.{demand}
use Rattle.coretests.proofs.edf.EdfCoreTest.holds.Given as goal

-- the work of the first entries
abbrev pub invariant-loop-e : goal.invariant-loop-e
invariant-loop-e l = (l.due ≡ demand (take l.e-index l.list.entries.now) l.t) × (l.due ≤ l.t)

-- every moment after t is met
abbrev pub invariant-moments : goal.invariant-moments
invariant-moments l = (s : ℕ) → l.t < s → s ≤ l.list.span → demand l.list.entries.now s ≤ s

abbrev pub decreases-moments : goal.decreases-moments
decreases-moments l = l.t

-- What the computed limits mean, in words of the subject.
use Rattle.std.specs.Prelude.{◌≡◌, ℕ, ◌+◌, ◌<◌, ◌≤◌, List, ◌∷◌, Some, None, Option}
use Rattle.coretests.specs.declared.entry.Entry.{Entry}
use Rattle.coretests.specs.Edf.{slack, least_slack}
use Rattle.coretests.specs.FixedPriority.{workload, tolerance}

-- The answer is the least slack of the moments from low to before d, or there is no such moment.
abbrev pub LeastSlackFrom : ℕ → List Entry → ℕ → Option ℕ → Type 0
LeastSlackFrom low xs d None = d ≤ low
LeastSlackFrom low xs d (Some b) = ((t : ℕ) × (low ≤ t) × (t < d) × (slack xs t ≡ b)) × ((t : ℕ) → low ≤ t → t < d → b ≤ slack xs t)

-- The limit of EDF is the least slack from the first entry's deadline on.
abbrev pub LeastSlackIsLeast : Type 0
LeastSlackIsLeast = (e : Entry) (es : List Entry) (d : ℕ) → LeastSlackFrom e.deadline (e ∷ es) d (least_slack (e ∷ es) d)

-- The entry tolerates b: some t from 1 to its deadline leaves b beside the workload.
abbrev pub Tolerates : List Entry → Entry → ℕ → Type 0
Tolerates before e b = (t : ℕ) × (1 ≤ t) × (t ≤ e.deadline) × (b + workload before e t ≤ t)

-- The answer is the largest b that is tolerated, or none is tolerated.
abbrev pub LargestTolerated : List Entry → Entry → Option ℕ → Type 0
LargestTolerated before e None = (b : ℕ) → Tolerates before e b → ⊥
LargestTolerated before e (Some b) = Tolerates before e b × ((k : ℕ) → Tolerates before e k → k ≤ b)

-- The tolerance is the largest number of ticks that is tolerated.
abbrev pub ToleranceIsLargest : Type 0
ToleranceIsLargest = (before : List Entry) (e : Entry) → LargestTolerated before e (tolerance before e)

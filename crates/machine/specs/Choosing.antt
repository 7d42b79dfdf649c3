-- The job that a core chooses, by its index among the first records of a list.
use Rattle.std.specs.Prelude.{◌≡◌, ℕ, ◌<◌, ◌≤◌, true, false, List, get_or, Some, None, Option, slice_index_or}
use Rattle.machine.specs.declared.types.Slot.{Slot}
use Rattle.machine.specs.Slots.{ready_on}

-- the index of the ready job of core c with the earliest deadline among the first n, the first of equals; or none of them is ready
abbrev pub Chooses : ℕ → List Slot → ℕ → Option ℕ → Type 0
Chooses c ss n None = (q : ℕ) (d : Slot) → q < n → ready_on c (slice_index_or ss q d) ≡ false
Chooses c ss n (Some p) =
    (p < n)
    × ((d : Slot) → ready_on c (slice_index_or ss p d) ≡ true)
    × ((q : ℕ) (d : Slot) → q < n → ready_on c (slice_index_or ss q d) ≡ true → (get_or ss p d).due ≤ (get_or ss q d).due)
    × ((q : ℕ) (d : Slot) → q < p → ready_on c (slice_index_or ss q d) ≡ true → (get_or ss p d).due < (get_or ss q d).due)

-- The record of a place, by its index in the table. Assumes nothing.
use Rattle.std.proofs.Common.{◌≡◌, ℕ, zero, suc, ◌-◌, ◌<◌, ◌≤◌, List, length, get_or, Some, sym, ap, ◌∙◌, arith}
use Rattle.std.proofs.lemmas.Option.{slice_get_within, get_or_from_slice_get}
use Rattle.machine.specs.declared.types.Slot.{Slot}
use Rattle.machine.specs.Machine.{slot_at}

-- where a place has a record, its index is in the table
pub slot_index : (place : ℕ) (ss : List Slot) (x : Slot) → Some x ≡ slot_at place ss → (1 ≤ place) × (place - 1 < length ss) × ((d : Slot) → x ≡ get_or ss (place - 1) d)
slot_index zero ss x e = absurd cc
slot_index (suc i) ss x e =
    let same : i ≡ suc i - 1 = omega arith in
    (omega arith, omega (arith, slice_get_within ss i x (sym e)), λ d. sym (get_or_from_slice_get ss i x d (sym e)) ∙ ap (λ n. get_or ss n d) same)

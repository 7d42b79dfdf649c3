-- The first core that does not hold, by a search of `1..=cores`. Assumes nothing.
use Rattle.std.proofs.Common.{◌≡◌, ℕ, zero, suc, ◌+◌, ◌-◌, ◌<◌, ◌≤◌, Bool, true, false, List, length, get_or, Some, None, Option, MatchOption, sym, refl, ap, ◌∙◌, subst, arith}
use Rattle.std.specs.Iterator.{AlwaysYields}
use Rattle.std.specs.List.{range_with_len, HoldsAt, AllWithin}
use Rattle.std.specs.Range.{range_inclusive_start, range_inclusive_end, range_inclusive_exhausted, range_inclusive_len, range_inclusive_left, range_inclusive_steps}
use Rattle.std.specs.declared.ops.RangeInclusive.{RangeInclusive}
use Rattle.std.proofs.lemmas.Iterator.{YieldsList}
use Rattle.std.proofs.lemmas.List.FromFn.{length-range_with_len, get_or-range_with_len}
use Rattle.coretests.specs.declared.entry.Entry.{Entry}
use Rattle.plans.specs.declared.types.Placed.{Placed}
use Rattle.clearing.specs.Examined.{Holds, FirstNotHeld}

abbrev gap : ℕ → ℕ → ℕ
gap a b = b - a

abbrev pub steps : RangeInclusive ℕ → Option ℕ → RangeInclusive ℕ → Type 0
steps = range_inclusive_steps gap (λ a b. b ≡ a + 1)

alive : (a b m : ℕ) (e : Bool) → range_inclusive_len gap a b e ≡ suc m → e ≡ false
alive a b m true h = absurd (omega arith)
alive a b m false h = refl

-- after the start comes the number after it, if any is left
again : (n a : ℕ) (t : RangeInclusive ℕ) → range_inclusive_left gap t ≡ n → (range_inclusive_exhausted t ≡ false → range_inclusive_start t ≡ a + 1) → range_with_len (range_inclusive_start t) n ≡ range_with_len (a + 1) n
again zero a t left follows = refl
again (suc m) a t left follows = ap (λ k. range_with_len k (suc m)) (follows (alive (range_inclusive_start t) (range_inclusive_end t) m (range_inclusive_exhausted t) left))

gives : (n : ℕ) (s : RangeInclusive ℕ) → range_inclusive_left gap s ≡ n → AlwaysYields steps (λ x. x) s (range_with_len (range_inclusive_start s) n)
gives zero s left = λ x t step. omega (arith, step.1.1)
gives (suc n) s left = (
  λ t step. omega (arith, step.1.0),
  λ x t step.
      let less : range_inclusive_left gap t ≡ n = omega (arith, step.1.1) in
      (step.1.0, subst (AlwaysYields steps (λ x. x) t) (again n (range_inclusive_start s) t less step.1.2) (gives n t less)),
)

-- the numbers from 1 to n
pub counts : (n : ℕ) (s : RangeInclusive ℕ) → range_inclusive_start s ≡ 1 → range_inclusive_end s ≡ n → range_inclusive_exhausted s ≡ false → YieldsList steps (λ x. x) s (range_with_len 1 n)
counts n s start end fresh =
    let left : range_inclusive_left gap s ≡ n = (λ i. range_inclusive_len gap (start i) (end i) (fresh i)) ∙ omega arith in
    record { runs = subst (λ k. AlwaysYields steps (λ x. x) s (range_with_len k n)) start (gives n s left) }

module _ (accepts : List Entry → Type 0) (cores : ℕ) (ps : List Placed) where
  abbrev all : List ℕ
  all = range_with_len 1 cores

  -- where all before a place hold, each core up to that place does
  held_below : (i : ℕ) → i ≤ cores → AllWithin (Holds accepts ps) all 0 i → (k : ℕ) → 1 ≤ k → k ≤ i → Holds accepts ps k
  held_below i h below k low high =
      let is : get_or all (k - 1) 0 ≡ k = omega (arith, get_or-range_with_len 1 cores (k - 1) 0 (omega arith), low) in
      subst (Holds accepts ps) is (below (k - 1) 0 (omega arith) (omega arith))

  pub first_from : (o : Option ℕ)
      → MatchOption o (AllWithin (Holds accepts ps) all 0 (length all)) (λ x. (Holds accepts ps x → ⊥) × (i : ℕ) × (i < length all) × HoldsAt (λ y. y ≡ x) all i × AllWithin (Holds accepts ps) all 0 i)
      → FirstNotHeld accepts cores ps o
  first_from None held = λ k low high. held_below (length all) (omega (arith, length-range_with_len 1 cores)) held k low (omega (arith, length-range_with_len 1 cores))
  first_from (Some core) found =
      let within : found.1 < cores = omega (arith, found.2, length-range_with_len 1 cores) in
      let is : core ≡ 1 + found.1 = sym (found.3 0) ∙ get_or-range_with_len 1 cores found.1 0 within in
      (omega arith, omega arith, found.0, λ k low less. held_below found.1 (omega arith) found.4 k low (omega arith))

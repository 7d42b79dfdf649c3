-- Entries in range whose deadlines do not fall, as the code asks for them. Assumes nothing.
use Rattle.std.proofs.Common.{◌≡◌, ℕ, zero, suc, ◌<◌, ◌≤◌, Bool, true, false, List, [], ◌∷◌, length, get_or, sym, refl, ⊎_elim, arith, add-one, nat_le}
use Rattle.std.specs.List.{list_all, IsAllAdjacentAnswer}
use Rattle.std.specs.Ordering.{is_le, nat_cmp}
use Rattle.std.proofs.lemmas.Bool.{and_parts, and_from, leb-true, le-leb, cases_Bool, both_ways}
use Rattle.std.proofs.lemmas.Bool.Decides.{nat_tests}
use Rattle.std.proofs.lemmas.Map.Keys.{le_from_is_le}
use Rattle.coretests.specs.declared.entry.Entry.{Entry}
use Rattle.coretests.specs.Entries.{in_range, ordered_from}
use Rattle.coretests.specs.Soundness.{blank}

rises : (x : Entry) (xs : List Entry) → list_all in_range xs ≡ true
    → ((k : ℕ) → suc k < length (x ∷ xs) → (get_or (x ∷ xs) k blank).deadline ≤ (get_or (x ∷ xs) (suc k) blank).deadline) → ordered_from x.deadline xs ≡ true
rises x [] a up = refl
rises x (y ∷ ys) a up =
    let b = and_parts (in_range y) _ a in
    and_from _ _ b.0 (and_from _ _ (le-leb _ _ (up 0 (omega arith))) (rises y ys b.1 (λ k l. up (suc k) (omega arith))))

rises_from : (xs : List Entry) → list_all in_range xs ≡ true
    → ((k : ℕ) → suc k < length xs → (get_or xs k blank).deadline ≤ (get_or xs (suc k) blank).deadline) → ordered_from 0 xs ≡ true
rises_from [] a up = refl
rises_from (x ∷ xs) a up =
    let b = and_parts (in_range x) _ a in
    and_from _ _ b.0 (and_from _ _ (le-leb 0 _ (omega arith)) (rises x xs b.1 up))

up_from : (d : ℕ) (xs : List Entry) (k : ℕ) → ordered_from d xs ≡ true → suc k < length xs → (get_or xs k blank).deadline ≤ (get_or xs (suc k) blank).deadline
up_from d [] k h l = absurd (omega arith)
up_from d (x ∷ []) k h l = absurd (omega arith)
up_from d (x ∷ y ∷ ys) zero h l =
    let a = and_parts (in_range x) _ h in
    let b = and_parts (nat_le d x.deadline) _ a.1 in
    let e = and_parts (in_range y) _ b.1 in
    leb-true _ _ (and_parts (nat_le x.deadline y.deadline) _ e.1).0
up_from d (x ∷ y ∷ ys) (suc k) h l =
    let a = and_parts (in_range x) _ h in
    let b = and_parts (nat_le d x.deadline) _ a.1 in
    up_from x.deadline (y ∷ ys) k b.1 (omega arith)

all_from : (d : ℕ) (xs : List Entry) → ordered_from d xs ≡ true → list_all in_range xs ≡ true
all_from d [] h = refl
all_from d (x ∷ xs) h =
    let a = and_parts (in_range x) _ h in
    and_from _ _ a.0 (all_from x.deadline xs (and_parts (nat_le d x.deadline) _ a.1).1)

pub unordered : (xs : List Entry) → list_all in_range xs ≡ false → ordered_from 0 xs ≡ false
unordered xs h = ⊎_elim (λ (o : ordered_from 0 xs ≡ true). absurd (both_ways _ h (all_from 0 xs o))) (λ (o : ordered_from 0 xs ≡ false). o) (cases_Bool (ordered_from 0 xs))

gt_from_not_le : (a b : ℕ) → is_le (nat_cmp a b) ≡ false → b < a
gt_from_not_le a b h = grind (arith, nat_tests)

pub ordered_is : (xs : List Entry) (r : Bool) → list_all in_range xs ≡ true
    → IsAllAdjacentAnswer (λ x y b. b ≡ is_le (nat_cmp x.deadline y.deadline)) xs r → r ≡ ordered_from 0 xs
ordered_is xs true a s =
    sym (rises_from xs a (λ k l. le_from_is_le _ _ (sym (rw add-one at (s k blank (omega arith))))))
ordered_is xs false a s =
    let k = s.0 in
    let falls : (get_or xs (suc k) blank).deadline < (get_or xs k blank).deadline = gt_from_not_le _ _ (sym (rw add-one at (s.2 blank))) in
    ⊎_elim
    (λ (o : ordered_from 0 xs ≡ true). absurd (omega (arith, up_from 0 xs k o (omega (arith, s.1)))))
    (λ (o : ordered_from 0 xs ≡ false). sym o)
    (cases_Bool (ordered_from 0 xs))

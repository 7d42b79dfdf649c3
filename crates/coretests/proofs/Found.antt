-- The turns of the search for a tolerance, and the chains over the entries. Assumes nothing.
use Rattle.std.proofs.Common.{◌≡◌, ℕ, zero, suc, ◌+◌, ◌-◌, ◌<◌, ◌≤◌, min, max, ◌&&◌, List, [], length, map, take, drop, is_some, unwrap_or, Some, None, Option, refl, sym, ap, ◌∙◌, arith}
use Rattle.std.specs.Option.{SomeIff, option_cmp}
use Rattle.std.specs.Ordering.{nat_cmp, ord_max}
use Rattle.std.specs.List.{All, list_all, range_with_len, reduce, fold}
use Rattle.std.proofs.lemmas.Bool.Decides.{nat_tests}
use Rattle.std.proofs.lemmas.List.{at_drop_all}
use Rattle.coretests.specs.declared.entry.Entry.{Entry}
use Rattle.coretests.specs.FixedPriority.{workload, tolerance, one_more, all_tolerate, least_tolerance}
use Rattle.coretests.specs.Soundness.{InRange}
use Rattle.coretests.specs.Tolerances.{most, spare, tolerance_of, margin_is, spare_skip, spare_here, spare-none, same_from_one_more}
use Rattle.coretests.specs.FixedLaws.{all_tolerate_next, least_next, lesser_assoc}
use Rattle.coretests.specs.Limits.{lesser}

greater_is : (a b : Option ℕ) → one_more (ord_max (option_cmp nat_cmp) a b) ≡ max (one_more a) (one_more b)
greater_is None None = refl
greater_is None (Some b) = omega arith
greater_is (Some a) None = omega arith
greater_is (Some a) (Some b) = grind (arith, nat_tests)

room_is : (r : Option ℕ) (t work : ℕ) → SomeIff r (work ≤ t) (t - work) → one_more r ≡ t + 1 - work
room_is None t work h = omega (arith, h)
room_is (Some b) t work h = omega (arith, h)

-- one entry behind those before it
module _ (xs : List Entry) (e : Entry) where
  -- what is found before t and what is left from t on give the tolerance
  abbrev pub Searched : Option ℕ → ℕ → Type 0
  Searched found t = (1 ≤ t) × (one_more found ≤ e.deadline + 1) × (max (one_more found) (most (spare xs e) t (e.deadline + 1 - t)) ≡ one_more (tolerance xs e))

  pub search_start : Searched None 1
  search_start =
      let all : e.deadline + 1 - 1 ≡ e.deadline = omega arith in
      (omega arith, omega arith, omega (arith, margin_is xs e, ap (most (spare xs e) 1) all))

  pub search_turn : All InRange xs → (found room next : Option ℕ) (t work u : ℕ) → next ≡ ord_max (option_cmp nat_cmp) found room → SomeIff room (work ≤ t) (t - work)
      → work ≡ workload xs e t → t ≤ e.deadline → u ≡ work + one_more next → Searched found t → Searched next u
  search_turn a found room next t work u greater fits is l then h =
      let n = one_more next in
      let more : n ≡ max (one_more found) (t + 1 - work) = ap one_more greater ∙ greater_is found room ∙ ap (max (one_more found)) (room_is room t work fits) in (
        omega arith,
        omega arith,
        ap (λ v. max n (most (spare xs e) v (e.deadline + 1 - v))) then
            ∙ spare_skip xs e t work n e.deadline a is (omega arith) l
            ∙ ap (λ m. max m (most (spare xs e) t (e.deadline + 1 - t))) more
            ∙ spare_here xs e t work (one_more found) e.deadline is l
            ∙ h.2,
      )

  -- what is found stays small enough for the next moment
  pub found_small : InRange e → (found room next : Option ℕ) (t work : ℕ) → next ≡ ord_max (option_cmp nat_cmp) found room → SomeIff room (work ≤ t) (t - work)
      → t ≤ e.deadline → Searched found t → one_more next ≤ 1000001
  found_small f found room next t work greater fits l h =
      let more : one_more next ≡ max (one_more found) (t + 1 - work) = ap one_more greater ∙ greater_is found room ∙ ap (max (one_more found)) (room_is room t work fits) in
      omega arith

  pub search_over : All InRange xs → (found : Option ℕ) (t : ℕ) → e.deadline < workload xs e t → Searched found t → found ≡ tolerance xs e
  search_over a found t over h =
      same_from_one_more found (tolerance xs e) (sym (spare-none xs e t (one_more found) e.deadline a over) ∙ h.2)

-- the entries one after another
abbrev value_of : List Entry → ℕ → ℕ
value_of xs k = unwrap_or (tolerance_of xs k) 0

all_from : (xs : List Entry) (i m : ℕ) → i + m ≡ length xs → list_all (λ k. is_some (tolerance_of xs k)) (range_with_len i m) ≡ all_tolerate (take i xs) (drop i xs)
all_from xs i zero e = sym (at_drop_all (all_tolerate (take i xs)) xs i (omega arith))
all_from xs i (suc m) e =
    ap (λ b. is_some (tolerance_of xs i) && b) (all_from xs (i + 1) m (omega arith)) ∙ sym (all_tolerate_next xs i (omega arith))

pub all_is : (xs : List Entry) → list_all (λ k. is_some (tolerance_of xs k)) (range_with_len 0 (length xs)) ≡ all_tolerate [] xs
all_is xs = all_from xs 0 (length xs) (omega arith)

min_from : (xs : List Entry) (i m a : ℕ) → i + m ≡ length xs
    → Some (fold min a (map (value_of xs) (range_with_len i m))) ≡ lesser (Some a) (least_tolerance (take i xs) (drop i xs))
min_from xs i zero a e = sym (ap (lesser (Some a)) (at_drop_all (least_tolerance (take i xs)) xs i (omega arith)))
min_from xs i (suc m) a e =
    min_from xs (i + 1) m (min a (value_of xs i)) (omega arith)
    ∙ lesser_assoc (Some a) (Some (value_of xs i)) (least_tolerance (take (i + 1) xs) (drop (i + 1) xs))
    ∙ ap (lesser (Some a)) (sym (least_next xs i (omega arith)))

least_from : (xs : List Entry) (m : ℕ) → m ≡ length xs → reduce min (map (value_of xs) (range_with_len 0 m)) ≡ least_tolerance (take 0 xs) (drop 0 xs)
least_from xs zero e = sym (at_drop_all (least_tolerance (take 0 xs)) xs 0 (omega arith))
least_from xs (suc m) e = min_from xs 1 m (value_of xs 0) (omega arith) ∙ sym (least_next xs 0 (omega arith))

pub least_is : (xs : List Entry) → reduce min (map (λ k. unwrap_or (tolerance_of xs k) 0) (range_with_len 0 (length xs))) ≡ least_tolerance [] xs
least_is xs = least_from xs (length xs) refl

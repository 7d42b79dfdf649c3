-- Sound lists, and what keeps a list sound. Assumes nothing.
use Rattle.std.specs.Prelude.{◌≡◌, ℕ, ◌%◌, ◌<◌, ◌≤◌, true, false, List, [], ◌∷◌, ◌++◌, length, take, nat_le, slice_index_or, refl}
use Rattle.std.proofs.Common.{ap, subst, ◌∙◌, arith, length-append}
use Rattle.std.proofs.lemmas.List.{map-append}
use Rattle.std.proofs.lemmas.Bool.{and_parts, and_from, and_left, and_right, leb-true, le-leb, lt-leb}
use Rattle.std.proofs.lemmas.List.Elements.{length_all_zip, All-nil, All-cons, All-head, All-tail, All-take, recursion_from_All}
use Rattle.std.specs.List.{All, AllByRecursion}
use Rattle.span.specs.Spans.{span_of, Positive, CommonMultiple}
use Rattle.span.proofs.Multiples.{span_some, span_common, span_prefix}
use Rattle.coretests.specs.declared.entry.Entry.{Entry}
use Rattle.coretests.specs.Entries.{in_range, ordered_from, periods, sound, LighterEntry, Lighter}

-- what a list has past its end
abbrev pub blank : Entry
blank = record { period = 0; deadline = 0; load = 0 }

pub record InRange (e : Entry) : Type 0 where
  pub period_low : 1 ≤ e.period
  pub period_high : e.period ≤ 1000000
  pub deadline_low : 1 ≤ e.deadline
  pub deadline_high : e.deadline ≤ e.period
  pub load_high : e.load ≤ 1000000000

pub in_range_is : (e : Entry) → in_range e ≡ true → InRange e
in_range_is e h =
    let a = and_parts _ _ h in
    let b = and_parts _ _ a.0 in
    let c = and_parts _ _ a.1 in
    let d = and_parts _ _ c.0 in
    record {
      period_low = leb-true _ _ b.0;
      period_high = leb-true _ _ b.1;
      deadline_low = leb-true _ _ d.0;
      deadline_high = leb-true _ _ d.1;
      load_high = leb-true _ _ c.1;
    }

pub in_range_from : (e : Entry) → InRange e → in_range e ≡ true
in_range_from e f =
    and_from _ _ (and_from _ _ (le-leb _ _ f.period_low) (le-leb _ _ f.period_high))
    (and_from _ _ (and_from _ _ (le-leb _ _ f.deadline_low) (le-leb _ _ f.deadline_high)) (le-leb _ _ f.load_high))

-- the order of the deadlines
pub ordered_in_range : (d : ℕ) (xs : List Entry) → ordered_from d xs ≡ true → All InRange xs
ordered_in_range d [] h = All-nil InRange
ordered_in_range d (x ∷ xs) h =
    let a = and_parts _ _ h in
    All-cons InRange x xs (in_range_is x a.0) (ordered_in_range x.deadline xs (and_parts _ _ a.1).1)

ordered_front : (d : ℕ) (xs ys : List Entry) → ordered_from d (xs ++ ys) ≡ true → ordered_from d xs ≡ true
ordered_front d [] ys h = refl
ordered_front d (x ∷ xs) ys h =
    let a = and_parts (in_range x) _ h in
    let b = and_parts (nat_le d x.deadline) _ a.1 in
    and_from _ _ a.0 (and_from _ _ b.0 (ordered_front x.deadline xs ys b.1))

in_range_lighter : (x y : Entry) → LighterEntry x y → InRange x → InRange y
in_range_lighter x y e f =
    record { period_low = omega arith; period_high = omega arith; deadline_low = omega arith; deadline_high = omega arith; load_high = omega arith }

ordered_lighter : (d : ℕ) (xs ys : List Entry) → Lighter xs ys → ordered_from d xs ≡ true → ordered_from d ys ≡ true
ordered_lighter d [] [] e h = refl
ordered_lighter d [] (y ∷ ys) e h = absurd e
ordered_lighter d (x ∷ xs) [] e h = absurd e
ordered_lighter d (x ∷ xs) (y ∷ ys) e h =
    let a = and_parts _ _ h in
    let b = and_parts _ _ a.1 in
    let rest : ordered_from x.deadline ys ≡ true = ordered_lighter x.deadline xs ys e.1 b.1 in
    let later : d ≤ x.deadline = leb-true _ _ b.0 in
    and_from _ _ (in_range_from y (in_range_lighter x y e.0 (in_range_is x a.0)))
    (and_from _ _ (le-leb d y.deadline (omega (arith, e.0.deadline))) (ap (λ n. ordered_from n ys) e.0.deadline ∙ rest))

-- the span of the periods
abbrev pub Divides : ℕ → List Entry → Type 0
Divides m xs = All (λ e. m % e.period ≡ 0) xs

pub periods_positive : (xs : List Entry) → All InRange xs → Positive (periods xs)
periods_positive [] a = tt
periods_positive (x ∷ xs) a = ((All-head InRange x xs a).period_low, periods_positive xs (All-tail InRange x xs a))

divides_is : (m : ℕ) (xs : List Entry) → CommonMultiple (periods xs) m → Divides m xs
divides_is m [] h = All-nil (λ e. m % e.period ≡ 0)
divides_is m (x ∷ xs) h = All-cons (λ e. m % e.period ≡ 0) x xs h.0 (divides_is m xs h.1)

periods_lighter : (xs ys : List Entry) → Lighter xs ys → periods ys ≡ periods xs
periods_lighter [] [] e = refl
periods_lighter [] (y ∷ ys) e = absurd e
periods_lighter (x ∷ xs) [] e = absurd e
periods_lighter (x ∷ xs) (y ∷ ys) e = ap (λ p. p ∷ periods ys) e.0.period ∙ ap (λ ps. x.period ∷ ps) (periods_lighter xs ys e.1)

-- the parts of soundness
pub record Sound (xs : List Entry) : Type 0 where
  pub few : length xs ≤ 24
  pub ordered : ordered_from 0 xs ≡ true
  pub spanned : span_of (periods xs) ≤ 1000000

pub sound_is : (xs : List Entry) → sound xs ≡ true → Sound xs
unfolding sound
sound_is xs h =
    let a = and_parts _ _ h in
    let b = and_parts _ _ a.1 in
    record { few = leb-true _ _ a.0; ordered = b.0; spanned = leb-true _ _ b.1 }

pub sound-from : (xs : List Entry) → Sound xs → sound xs ≡ true
unfolding sound
sound-from xs s = and_from _ _ (le-leb _ _ s.few) (and_from _ _ s.ordered (le-leb _ _ s.spanned))

pub unsound_many : (xs : List Entry) → 24 < length xs → sound xs ≡ false
unfolding sound
unsound_many xs h = and_left _ _ (lt-leb _ _ h)

pub unsound_ordered : (xs : List Entry) → ordered_from 0 xs ≡ false → sound xs ≡ false
unfolding sound
unsound_ordered xs h = and_right _ _ (and_left _ _ h)

pub unsound_span : (xs : List Entry) → 1000000 < span_of (periods xs) → sound xs ≡ false
unfolding sound
unsound_span xs h = and_right (nat_le (length xs) 24) _ (and_right (ordered_from 0 xs) _ (lt-leb _ _ h))

pub in_range_each : (xs : List Entry) → sound xs ≡ true → All InRange xs
in_range_each xs s = ordered_in_range 0 xs (sound_is xs s).ordered

-- the same by recursion on the list, as proofs about assigned tasks take it
pub in_range_all : (xs : List Entry) → sound xs ≡ true → AllByRecursion InRange xs
in_range_all xs s = recursion_from_All InRange xs (in_range_each xs s)

pub in_range_at : (xs : List Entry) (i : ℕ) → sound xs ≡ true → i < length xs → InRange (slice_index_or xs i blank)
in_range_at xs i s h = in_range_each xs s i blank h

pub front_in_range : (xs : List Entry) (n : ℕ) → sound xs ≡ true → All InRange (take n xs)
front_in_range xs n s = All-take InRange n xs (in_range_each xs s)

pub front_in_range_at : (xs : List Entry) (n i : ℕ) → sound xs ≡ true → i < length (take n xs) → InRange (slice_index_or (take n xs) i blank)
front_in_range_at xs n i s h = front_in_range xs n s i blank h

pub span_low : (xs : List Entry) → sound xs ≡ true → 1 ≤ span_of (periods xs)
span_low xs s = span_some (periods xs) (periods_positive xs (in_range_each xs s))

pub span_divides : (xs : List Entry) → sound xs ≡ true → Divides (span_of (periods xs)) xs
span_divides xs s = divides_is (span_of (periods xs)) xs (span_common (periods xs) (periods_positive xs (in_range_each xs s)))

pub sound_front : (xs ys : List Entry) → sound (xs ++ ys) ≡ true → sound xs ≡ true
sound_front xs ys h =
    let s = sound_is (xs ++ ys) h in
    let joined : periods (xs ++ ys) ≡ periods xs ++ periods ys = map-append (λ e. e.period) xs ys in
    let positive : Positive (periods xs ++ periods ys) = subst Positive joined (periods_positive (xs ++ ys) (in_range_each (xs ++ ys) h)) in
    sound-from xs (record {
      few = omega (arith, length-append xs ys);
      ordered = ordered_front 0 xs ys s.ordered;
      spanned = omega (arith, span_prefix (periods xs) (periods ys) positive, ap span_of joined);
    })

pub sound_lighter : (xs ys : List Entry) → Lighter xs ys → sound xs ≡ true → sound ys ≡ true
sound_lighter xs ys e h =
    let s = sound_is xs h in
    sound-from ys (record {
      few = omega (arith, length_all_zip LighterEntry xs ys e);
      ordered = ordered_lighter 0 xs ys e s.ordered;
      spanned = omega (arith, ap span_of (periods_lighter xs ys e));
    })

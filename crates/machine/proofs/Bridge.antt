-- The machine in words of code: records by index, rows, and the place that a core chooses. Assumes nothing.
use Rattle.std.proofs.Common.{◌≡◌, ℕ, zero, suc, ◌+◌, ◌-◌, ◌<◌, ◌≤◌, min, Bool, true, false, cond, not, ◌&&◌, eqb, List, [], ◌∷◌, ◌++◌, length, get_or, set, Some, None, Option, MatchOption, sym, refl, ap, ◌∙◌, subst, inl, inr, add-one, arith}
use Rattle.std.proofs.lemmas.List.FromFn.{map-range_with_len_more, length-map-range_with_len}
use Rattle.std.specs.List.{position, position_from}
use Rattle.std.proofs.lemmas.Iterator.Adapters.{position_from-zero}
use Rattle.std.proofs.lemmas.Option.{get_or_from_slice_get, slice_get-get_or, slice_get_past}
use Rattle.std.proofs.lemmas.Bool.{cond-true, cond-false, eq-eqb, ne_eqb, and_left, and_right, and_from, cases_Bool}
use Rattle.tasks.specs.Refusals.{first_of}
use Rattle.tasks.specs.declared.refusal.Refusal.TheVariants.{NoSuchPlace, EarlyRelease, UnfinishedJob}
use Rattle.machine.specs.declared.types.Slot.{Slot}
use Rattle.machine.specs.declared.types.Event.TheVariants as events
use Rattle.machine.specs.declared.types.Call.TheVariants.{Release}
use Rattle.machine.specs.Slots.{is_idle, after_event, period_passed, released, busy, inside_on, ready_on, earlier, earliest_due, enter_due, enter_earliest, enter_on, place_on, row_of, change_at}
use Rattle.machine.specs.Machine.{State, granted, slot_at, release_refusal, released_state, settle, step}
use Rattle.machine.specs.Choosing.{Chooses}

-- a change at an index
pub change_at_set : (i : ℕ) (f : Slot → Slot) (ss : List Slot) (d : Slot) → change_at i f ss ≡ set ss i (f (get_or ss i d))
change_at_set i f [] d = refl
change_at_set zero f (s ∷ ss) d = refl
change_at_set (suc i) f (s ∷ ss) d = ap (λ (l : List Slot). s ∷ l) (change_at_set i f ss d)

-- the earliest deadline is that of a ready job which no other precedes
abbrev Above : ℕ → Option ℕ → Type 0
Above m None = Unit {0}
Above m (Some e) = m ≤ e

earlier_above : (b : Bool) (due : ℕ) (o : Option ℕ) (m : ℕ) → (b ≡ true → m ≤ due) → Above m o → Above m (earlier b due o)
earlier_above true due None m h a = h refl
earlier_above true due (Some e) m h a = omega (arith, h refl)
earlier_above false due o m h a = a

earlier_first : (due : ℕ) (o : Option ℕ) → Above due o → earlier true due o ≡ Some due
earlier_first due None a = refl
earlier_first due (Some e) a = let q : min due e ≡ due = omega arith in ap Some q

earlier_later : (b : Bool) (due m : ℕ) → (b ≡ true → m ≤ due) → earlier b due (Some m) ≡ Some m
earlier_later true due m h = let q : min due m ≡ m = omega (arith, h refl) in ap Some q
earlier_later false due m h = refl

module _ (c : ℕ) where
  above : (ss : List Slot) (d : Slot) (m : ℕ) → ((q : ℕ) → q < length ss → ready_on c (get_or ss q d) ≡ true → m ≤ (get_or ss q d).due) → Above m (earliest_due c ss)
  above [] d m h = tt
  above (s ∷ ss) d m h = earlier_above (ready_on c s) s.due (earliest_due c ss) m (h 0 (omega arith)) (above ss d m (λ q l r. h (suc q) (omega arith) r))

  earliest_is : (p : ℕ) (ss : List Slot) (d : Slot) (m : ℕ) → p < length ss → ready_on c (get_or ss p d) ≡ true → (get_or ss p d).due ≡ m → ((q : ℕ) → q < length ss → ready_on c (get_or ss q d) ≡ true → m ≤ (get_or ss q d).due) → earliest_due c ss ≡ Some m
  earliest_is p [] d m l r e h = absurd (omega arith)
  earliest_is zero (s ∷ ss) d m l r e h = ap (λ b. earlier b s.due (earliest_due c ss)) r ∙ earlier_first s.due (earliest_due c ss) (subst (λ (x : ℕ). Above x (earliest_due c ss)) (sym e) (above ss d m (λ q l r. h (suc q) (omega arith) r))) ∙ ap Some e
  earliest_is (suc p) (s ∷ ss) d m l r e h = ap (λ o. earlier (ready_on c s) s.due o) (earliest_is p ss d m (omega arith) r e (λ q l r. h (suc q) (omega arith) r)) ∙ earlier_later (ready_on c s) s.due m (h 0 (omega arith))

  earliest_none : (ss : List Slot) → ((q : ℕ) (d : Slot) → q < length ss → ready_on c (get_or ss q d) ≡ false) → earliest_due c ss ≡ None
  earliest_none [] h = refl
  earliest_none (s ∷ ss) h = ap (λ b. earlier b s.due (earliest_due c ss)) (h 0 s (omega arith)) ∙ earliest_none ss (λ q d l. h (suc q) d (omega arith))

  enter_due_is : (p : ℕ) (ss : List Slot) (d : Slot) (m : ℕ) → p < length ss → ready_on c (get_or ss p d) ≡ true → (get_or ss p d).due ≡ m → ((q : ℕ) → q < p → ready_on c (get_or ss q d) ≡ true → m < (get_or ss q d).due)
      → enter_due c m ss ≡ set ss p (after_event events.Enter (get_or ss p d))
  enter_due_is p [] d m l r e h = refl
  enter_due_is zero (s ∷ ss) d m l r e h = cond-true (ready_on c s && eqb s.due m) (after_event events.Enter s ∷ ss) (s ∷ enter_due c m ss) (and_from (ready_on c s) (eqb s.due m) r (eq-eqb s.due m e))
  enter_due_is (suc p) (s ∷ ss) d m l r e h =
      let other : (ready_on c s && eqb s.due m) ≡ false = elim (cases_Bool (ready_on c s)) [
        | inl t ↦ and_right (ready_on c s) (eqb s.due m) (ne_eqb s.due m (λ q. omega (arith, h 0 (omega arith) t)))
        | inr f ↦ and_left (ready_on c s) (eqb s.due m) f
      ] in
      cond-false (ready_on c s && eqb s.due m) (after_event events.Enter s ∷ ss) (s ∷ enter_due c m ss) other ∙ ap (λ (l : List Slot). s ∷ l) (enter_due_is p ss d m (omega arith) r e (λ q l r. h (suc q) (omega arith) r))

  -- a core with no region under way enters the job at the chosen index x, or nothing
  pub chosen_enters : (ss : List Slot) (p : ℕ) (x y : Slot) → busy c ss ≡ false → Chooses c ss (length ss) (Some p) → ((d : Slot) → x ≡ get_or ss p d) → y ≡ after_event events.Enter x → set ss p y ≡ enter_on c ss
  chosen_enters ss p x y b best at_p r =
      let m : ℕ = (get_or ss p x).due in
      let enters = cond-false (busy c ss) ss (enter_earliest c (earliest_due c ss) ss) b
      ∙ ap (λ o. enter_earliest c o ss) (earliest_is p ss x m best.0 (best.1 x) refl (λ q. best.2 q x))
      ∙ enter_due_is p ss x m best.0 (best.1 x) refl (λ q. best.3 q x) in
      ap (set ss p) (r ∙ ap (after_event events.Enter) (at_p x)) ∙ sym enters

  pub none_enters : (ss : List Slot) → busy c ss ≡ false → Chooses c ss (length ss) None → ss ≡ enter_on c ss
  none_enters ss b none = sym (cond-false (busy c ss) ss (enter_earliest c (earliest_due c ss) ss) b ∙ ap (λ o. enter_earliest c o ss) (earliest_none ss none))

  -- a busy core enters nothing
  pub busy_enters : (ss : List Slot) → busy c ss ≡ true → ss ≡ enter_on c ss
  busy_enters ss b = sym (cond-true (busy c ss) ss (enter_earliest c (earliest_due c ss) ss) b)

-- the place of the record at the index of the first that is inside a region on the core, or 0
place_on-position_from : (c i : ℕ) (ss : List Slot) (n : ℕ) → MatchOption (position_from (inside_on c) i ss) (n ≡ 0) (λ k. n ≡ k + 1) → n ≡ place_on c (i + 1) ss
place_on-position_from c i [] n h = h
place_on-position_from c i (s ∷ ss) n h = go (inside_on c s) (place_on-position_from c (i + 1) ss n) h
  where
    go : (b : Bool) → (MatchOption (position_from (inside_on c) (i + 1) ss) (n ≡ 0) (λ k. n ≡ k + 1) → n ≡ place_on c (i + 1 + 1) ss) → MatchOption (cond b (Some i) (position_from (inside_on c) (i + 1) ss)) (n ≡ 0) (λ k. n ≡ k + 1) → n ≡ cond b (i + 1) (place_on c (suc (i + 1)) ss)
    go true rest h = h
    go false rest h = rest h ∙ ap (λ p. place_on c p ss) (add-one (i + 1))

pub place_found : (c : ℕ) (ss : List Slot) (o : Option ℕ) (n : ℕ) → o ≡ position (inside_on c) ss → MatchOption o (n ≡ 0) (λ k. n ≡ k + 1) → n ≡ place_on c 1 ss
place_found c ss o n e h = place_on-position_from c 0 ss n (subst (λ o. MatchOption o (n ≡ 0) (λ k. n ≡ k + 1)) (e ∙ position_from-zero (inside_on c) ss) h)

-- one more number of a row
pub row_more : (core : ℕ) (ss : List Slot) (xs : List ℕ) (v : ℕ) → 1 ≤ core → xs ≡ row_of (core - 1) ss → v ≡ place_on core 1 ss → xs ++ v ∷ [] ≡ row_of core ss
row_more zero ss xs v h inv r = absurd (omega arith)
row_more (suc c) ss xs v h inv r =
    let before : suc c - 1 ≡ c = omega arith in
    let place = λ (k : ℕ). place_on k 1 ss in
    (λ i. (inv ∙ ap (λ n. row_of n ss) before) i ++ r i ∷ []) ∙ sym (map-range_with_len_more place 1 c (suc c) (omega arith)) ∙ ap (λ n. row_of n ss) (add-one c)

pub length-row_of : (c : ℕ) (ss : List Slot) → length (row_of c ss) ≡ c
length-row_of c ss = length-map-range_with_len (λ k. place_on k 1 ss) 1 c

-- the record of a place
pub slot_past : (place : ℕ) (ss : List Slot) → length ss ≤ place - 1 → slot_at place ss ≡ None
slot_past zero ss h = refl
slot_past (suc i) ss h = slice_get_past ss i (omega arith)

pub slot_here : (place : ℕ) (ss : List Slot) (x : Slot) → 1 ≤ place → place - 1 < length ss → ((d : Slot) → x ≡ get_or ss (place - 1) d) → slot_at place ss ≡ Some x
slot_here zero ss x l h e = absurd (omega arith)
slot_here (suc i) ss x l h e =
    let q : suc i - 1 ≡ i = omega arith in
    slice_get-get_or ss i x (omega arith) ∙ ap Some (ap (λ n. get_or ss n x) (sym q) ∙ sym (e x))

-- why a release is refused, or that it is not
module _ (now place : ℕ) (o : Option Slot) (x : Slot) (e : o ≡ Some x) where
  refusal_is : (a b : Bool) → period_passed now x.task x.last ≡ a → is_idle x.job ≡ b → release_refusal now place o ≡ first_of ((not a, EarlyRelease place) ∷ (not b, UnfinishedJob place) ∷ [])
  refusal_is a b p q = ap (release_refusal now place) e ∙ ap (λ t. first_of ((not t, EarlyRelease place) ∷ (not (is_idle x.job), UnfinishedJob place) ∷ [])) p ∙ ap (λ t. first_of ((not a, EarlyRelease place) ∷ (not t, UnfinishedJob place) ∷ [])) q

  pub release_early : false ≡ period_passed now x.task x.last → release_refusal now place o ≡ Some (EarlyRelease place)
  release_early p = refusal_is false (is_idle x.job) (sym p) refl

  pub release_unfinished : true ≡ period_passed now x.task x.last → false ≡ is_idle x.job → release_refusal now place o ≡ Some (UnfinishedJob place)
  release_unfinished p q = refusal_is true false (sym p) (sym q)

  pub release_allowed : true ≡ period_passed now x.task x.last → true ≡ is_idle x.job → release_refusal now place o ≡ None
  release_allowed p q = refusal_is true true (sym p) (sym q)

pub release_nowhere : (now place : ℕ) (o : Option Slot) → o ≡ None → release_refusal now place o ≡ Some (NoSuchPlace place)
release_nowhere now place o e = ap (release_refusal now place) e

-- a release that nothing refuses, by index
pub release_step : (st : State) (place : ℕ) (x y : Slot) → Some x ≡ slot_at place st.slots → true ≡ period_passed st.clock x.task x.last → true ≡ is_idle x.job → y ≡ released st.clock x
    → step st (Release place) ≡ (record { cores = st.cores; clock = st.clock; slots = set st.slots (place - 1) y }, granted)
release_step st zero x y is p q r = absurd cc
release_step st (suc i) x y is p q r =
    let ss : List Slot = st.slots in
    let here : get_or ss i x ≡ x = get_or_from_slice_get ss i x x (sym is) in
    let index : i ≡ suc i - 1 = omega arith in
    let ok : release_refusal st.clock (suc i) (slot_at (suc i) ss) ≡ None = rw (← is, ← p, ← q) refl in
    let slots : change_at i (released st.clock) ss ≡ set ss (suc i - 1) y =
    change_at_set i (released st.clock) ss x ∙ ap (λ z. set ss i (released st.clock z)) here ∙ (λ j. set ss (index j) (sym r j)) in
    ap (λ o. settle st o (released_state st (suc i)) granted) ok ∙ ap (λ (l : List Slot). (record { cores = st.cores; clock = st.clock; slots = l }, granted)) slots

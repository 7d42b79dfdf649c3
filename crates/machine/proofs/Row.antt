-- What a row shows: the places with a region under way, each in the column of its core. Assumes nothing.
use Rattle.std.proofs.Common.{◌≡◌, ℕ, zero, suc, ◌+◌, ◌-◌, ◌<◌, ◌≤◌, Bool, true, false, cond, ◌&&◌, ◌||◌, eqb, List, [], ◌∷◌, map, get_or, sym, refl, ap, ◌∙◌, inl, inr, arith}
use Rattle.std.specs.List.{range_with_len}
use Rattle.std.proofs.lemmas.List.FromFn.{get_or-map-range_with_len}
use Rattle.std.proofs.lemmas.Bool.{cond-true, cond-false, cases_Bool, cases_eq, eq-eqb, ne_eqb, eqb-true, and_parts, and_right, or_right, or_left, or_from, both_ways}
use Rattle.machine.specs.declared.types.Job.{Job}
use Rattle.machine.specs.declared.types.Slot.{Slot}
use Rattle.machine.specs.Slots.{is_inside, runs_on, busy, place_on, row_of}
use Rattle.machine.specs.Watch.{in_row}
use Rattle.machine.specs.Law.{Places}
use Rattle.machine.proofs.Sums.{sum_of}
use Rattle.machine.proofs.Weight.{count_on, in_job, within}
use Rattle.machine.proofs.Enter.{in_counts}
use Rattle.machine.proofs.Places.{places_of, places-every}

-- the record has a region under way on the core
abbrev under : ℕ → Slot → Bool
under c s = runs_on c s && is_inside s.job

under_counts : (b : Bool) (j : Job) → (b && is_inside j) ≡ true → cond b (in_job j) 0 ≡ 1
under_counts b j e = in_counts b j ∙ cond-true {A = ℕ} (b && is_inside j) 1 0 e

under_not : (c : ℕ) (s : Slot) → count_on c within s ≡ 0 → under c s ≡ false
under_not c s z = elim (cases_Bool (under c s)) [
  | inl e ↦ absurd (omega (arith, under_counts (runs_on c s) s.job e))
  | inr f ↦ f
]

place-on_not : (c p q : ℕ) (ss : List Slot) → 1 ≤ q → q < p → place_on c p ss ≡ q → ⊥
place-on_not c p q [] o l e = omega arith
place-on_not c p q (s ∷ ss) o l e = elim (cases_Bool (under c s)) [
  | inl t ↦ omega (arith, cond-true (under c s) p (place_on c (suc p) ss) t)
  | inr f ↦ place-on_not c (suc p) q ss o (omega arith) (sym (cond-false (under c s) p (place_on c (suc p) ss) f) ∙ e)
]

none_under : (c n p : ℕ) (ss : List Slot) → n < p → sum_of (count_on c within) ss ≡ 0 → Places (λ q s. eqb n q ≡ under c s) p ss
none_under c n p [] l z = tt
none_under c n p (s ∷ ss) l z = (ne_eqb n p (λ e. omega arith) ∙ sym (under_not c s (omega arith)), none_under c n (suc p) ss (omega arith) (omega arith))

place-on_one : (c p : ℕ) (ss : List Slot) → 1 ≤ p → sum_of (count_on c within) ss ≤ 1 → Places (λ q s. eqb (place_on c p ss) q ≡ under c s) p ss
place-on_one c p [] l o = tt
place-on_one c p (s ∷ ss) l o = elim (cases_Bool (under c s)) [
  | inl t ↦
      let here_is : place_on c p (s ∷ ss) ≡ p = cond-true (under c s) p (place_on c (suc p) ss) t in (
        eq-eqb _ p here_is ∙ sym t,
        places_of (λ q x. eqb p q ≡ under c x) (λ q x. eqb (place_on c p (s ∷ ss)) q ≡ under c x) (suc p) (λ q x _ e. ap (λ n. eqb n q) here_is ∙ e) ss (none_under c p (suc p) ss (omega arith) (omega (arith, under_counts (runs_on c s) s.job t))),
      )
  | inr f ↦
      let later : place_on c p (s ∷ ss) ≡ place_on c (suc p) ss = cond-false (under c s) p (place_on c (suc p) ss) f in (
        ne_eqb _ p (λ e. place-on_not c (suc p) p ss l (omega arith) (sym later ∙ e)) ∙ sym f,
        places_of (λ q x. eqb (place_on c (suc p) ss) q ≡ under c x) (λ q x. eqb (place_on c p (s ∷ ss)) q ≡ under c x) (suc p) (λ q x _ e. ap (λ n. eqb n q) later ∙ e) ss (place-on_one c (suc p) ss (omega arith) (omega arith)),
      )
]

-- the records that stand on their cores, read by place
abbrev pub Standing : List Slot → ℕ → Slot → Type 0
Standing ss q s = (c : ℕ) → eqb (place_on c 1 ss) q ≡ (runs_on c s && is_inside s.job)

pub standing : (ss : List Slot) → ((c : ℕ) → sum_of (count_on c within) ss ≤ 1) → Places (Standing ss) 1 ss
standing ss one = places-every (λ c q s. eqb (place_on c 1 ss) q ≡ under c s) 1 ss (λ c. place-on_one c 1 ss (omega arith) (one c))

-- the row
not_in_row : (f : ℕ → ℕ) (q : ℕ) → ((c : ℕ) → eqb (f c) q ≡ false) → (a n : ℕ) → in_row q (map f (range_with_len a n)) ≡ false
not_in_row f q e a zero = refl
not_in_row f q e a (suc n) = or_from (eqb (f a) q) (in_row q (map f (range_with_len (a + 1) n))) (e a) (not_in_row f q e (a + 1) n)

is_in_row : (f : ℕ → ℕ) (q k : ℕ) → eqb (f k) q ≡ true → (a n : ℕ) → a ≤ k → k < a + n → in_row q (map f (range_with_len a n)) ≡ true
is_in_row f q k e a zero l h = absurd (omega arith)
is_in_row f q k e a (suc n) l h = elim (cases_eq a k) [
  | inl t ↦ or_left (eqb (f a) q) (in_row q (map f (range_with_len (a + 1) n))) (ap (λ x. eqb (f x) q) t ∙ e)
  | inr t ↦ or_right (eqb (f a) q) (in_row q (map f (range_with_len (a + 1) n))) (is_in_row f q k e (a + 1) n (omega arith) (omega arith))
]

-- a place is in the row where it has a region under way
pub in_row_is : (cores q : ℕ) (s : Slot) (ss : List Slot) → 1 ≤ s.task.core → s.task.core ≤ cores → Standing ss q s → in_row q (row_of cores ss) ≡ is_inside s.job
in_row_is cores q s ss l h e = elim (cases_Bool (is_inside s.job)) [
  | inl t ↦ is_in_row (λ c. place_on c 1 ss) q s.task.core (e s.task.core ∙ ap (λ b. b && is_inside s.job) (eq-eqb s.task.core s.task.core refl) ∙ t) 1 cores l (omega arith) ∙ sym t
  | inr f ↦ not_in_row (λ c. place_on c 1 ss) q (λ c. e c ∙ and_right (runs_on c s) (is_inside s.job) f) 1 cores ∙ sym f
]

-- the row has a place with a region under way in the column of its core
abbrev pub Shown : List ℕ → ℕ → Slot → Type 0
Shown row q s = is_inside s.job ≡ true → get_or row (s.task.core - 1) 0 ≡ q

pub column_is : (cores q : ℕ) (s : Slot) (ss : List Slot) → 1 ≤ s.task.core → s.task.core ≤ cores → Standing ss q s → Shown (row_of cores ss) q s
column_is cores q s ss l h e t = get_or-map-range_with_len (λ c. place_on c 1 ss) 1 cores (s.task.core - 1) s.task.core 0 (omega arith) (omega arith) ∙ eqb-true _ q (e s.task.core ∙ ap (λ b. b && is_inside s.job) (eq-eqb s.task.core s.task.core refl) ∙ t)

-- where a core has a region under way, its column still shows whose it is
pub shown_place : (row : List ℕ) (c p : ℕ) (ss : List Slot) → busy c ss ≡ true → Places (Shown row) p ss → get_or row (c - 1) 0 ≡ place_on c p ss
shown_place row c p [] b a = absurd (both_ways false refl b)
shown_place row c p (s ∷ ss) b a = elim (cases_Bool (under c s)) [
  | inl t ↦
      let h = and_parts (runs_on c s) (is_inside s.job) t in
      ap (λ x. get_or row (x - 1) 0) (sym (eqb-true s.task.core c h.0)) ∙ a.0 h.1 ∙ sym (cond-true (under c s) p (place_on c (suc p) ss) t)
  | inr f ↦ shown_place row c (suc p) ss (sym (ap (λ x. x || busy c ss) f) ∙ b) a.1 ∙ sym (cond-false (under c s) p (place_on c (suc p) ss) f)
]

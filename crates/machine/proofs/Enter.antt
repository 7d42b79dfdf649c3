-- What entering changes: at most one record, that of a ready job with the earliest deadline of a core with no region under way. Assumes nothing.
use Rattle.std.proofs.Common.{◌≡◌, ℕ, ◌+◌, ◌≤◌, min, Bool, true, false, cond, ◌&&◌, ◌||◌, eqb, leb, List, [], ◌∷◌, Some, None, Option, refl, ap, subst, inl, inr, arith}
use Rattle.std.proofs.lemmas.Bool.{leb-true, cond_both, eqb-true, eq-eqb, and_parts, both_ways, cases_eq}
use Rattle.machine.specs.declared.types.Job.{Job}
use Rattle.machine.specs.declared.types.Job.TheVariants.{Idle, Ready, Inside}
use Rattle.machine.specs.declared.types.Slot.{Slot}
use Rattle.machine.specs.declared.types.Event.TheVariants.{Enter}
use Rattle.machine.specs.Slots.{is_ready, is_inside, runs_on, ready_on, busy, after_event, earlier, earliest_due, enter_due, enter_earliest, enter_on}
use Rattle.machine.proofs.Sums.{sum_of, Change, here, there}
use Rattle.machine.proofs.Weight.{count_on, pends, pending, in_job, within, wait_job, waits}

-- a ready job of the core with the deadline m
abbrev pub Chosen : ℕ → ℕ → Slot → Type 0
Chosen c m s = (runs_on c s ≡ true) × (is_ready s.job ≡ true) × (s.due ≡ m)

-- entering at a core leaves all as it is, where every waiting job waits behind a region under way; or the chosen job enters
pub data Entered (c : ℕ) (ss : List Slot) : List Slot → Type 0 where
  stays : (1 ≤ sum_of (count_on c waits) ss → 1 ≤ sum_of (count_on c within) ss) → Entered c ss ss
  begins : {ss' : List Slot} (m : ℕ) → sum_of (count_on c within) ss ≡ 0 → ((d : ℕ) → 1 ≤ sum_of (count_on c (pending d)) ss → m ≤ d) → Change (Chosen c m) (after_event Enter) ss ss' → Entered c ss ss'

-- a core is busy exactly if something counts as inside a region there
pub in_counts : (b : Bool) (j : Job) → cond b (in_job j) 0 ≡ cond (b && is_inside j) 1 0
in_counts true Idle = refl
in_counts true (Ready k) = refl
in_counts true (Inside k left) = refl
in_counts false j = refl

or_counts : (x y : Bool) (k n : ℕ) → k ≡ cond x 1 0 → (y ≡ true → 1 ≤ n) × (y ≡ false → n ≡ 0) → ((x || y) ≡ true → 1 ≤ k + n) × ((x || y) ≡ false → k + n ≡ 0)
or_counts true y k n e h = (λ _. omega arith, λ q. absurd (both_ways true q refl))
or_counts false true k n e h = (λ _. omega (arith, h.0 refl), λ q. absurd (both_ways true q refl))
or_counts false false k n e h = (λ q. absurd (both_ways false refl q), λ _. omega (arith, h.1 refl))

busy_counts : (c : ℕ) (ss : List Slot) → (busy c ss ≡ true → 1 ≤ sum_of (count_on c within) ss) × (busy c ss ≡ false → sum_of (count_on c within) ss ≡ 0)
busy_counts c [] = (λ q. absurd (both_ways false refl q), λ _. refl)
busy_counts c (s ∷ ss) = or_counts (runs_on c s && is_inside s.job) (busy c ss) (count_on c within s) (sum_of (count_on c within) ss) (in_counts (runs_on c s) s.job) (busy_counts c ss)

-- the earliest deadline is no later than any that is pending
abbrev Below : ℕ → Option ℕ → Type 0
Below d None = ⊥
Below d (Some m) = m ≤ d

earlier_below : (b : Bool) (due : ℕ) (o : Option ℕ) (d : ℕ) → Below d o → Below d (earlier b due o)
earlier_below true due None d h = absurd h
earlier_below true due (Some e) d h = omega arith
earlier_below false due o d h = h

earlier_here : (due : ℕ) (o : Option ℕ) (d : ℕ) → due ≤ d → Below d (earlier true due o)
earlier_here due None d h = h
earlier_here due (Some e) d h = omega arith

head_below : (b : Bool) (j : Job) (due : ℕ) (o : Option ℕ) (d : ℕ) → cond b (in_job j) 0 ≡ 0 → 1 ≤ cond b (pends d j due) 0 → Below d (earlier (b && is_ready j) due o)
head_below true Idle due o d z h = absurd (omega arith)
head_below true (Ready k) due o d z h = cond_both (leb due d) 1 0 (λ n. 1 ≤ n → Below d (earlier true due o)) (λ e _. earlier_here due o d (leb-true due d e)) (λ _ h. absurd (omega arith)) h
head_below true (Inside k left) due o d z h = absurd (omega arith)
head_below false j due o d z h = absurd (omega arith)

earliest_below : (c : ℕ) (ss : List Slot) (d : ℕ) → sum_of (count_on c within) ss ≡ 0 → 1 ≤ sum_of (count_on c (pending d)) ss → Below d (earliest_due c ss)
earliest_below c [] d z h = omega arith
earliest_below c (s ∷ ss) d z h = elim (cases_eq (count_on c (pending d) s) 0) [
  | inl e ↦ earlier_below (ready_on c s) s.due (earliest_due c ss) d (earliest_below c ss d (omega arith) (omega arith))
  | inr n ↦ head_below (runs_on c s) s.job s.due (earliest_due c ss) d (omega arith) (omega arith)
]

none_head : (b : Bool) (j : Job) (due : ℕ) (o : Option ℕ) (n : ℕ) → earlier (b && is_ready j) due o ≡ None → (o ≡ None → n ≡ 0) → cond b (wait_job j) 0 + n ≡ 0
none_head true Idle due o n e h = omega (arith, h e)
none_head true (Ready k) due None n e h = let z : ◌≡◌ {A = ℕ} 0 1 = cc in omega arith
none_head true (Ready k) due (Some x) n e h = let z : ◌≡◌ {A = ℕ} 0 1 = cc in omega arith
none_head true (Inside k left) due o n e h = omega (arith, h e)
none_head false j due o n e h = omega (arith, h e)

none_waits : (c : ℕ) (ss : List Slot) → earliest_due c ss ≡ None → sum_of (count_on c waits) ss ≡ 0
none_waits c [] e = refl
none_waits c (s ∷ ss) e = none_head (runs_on c s) s.job s.due (earliest_due c ss) (sum_of (count_on c waits) ss) e (none_waits c ss)

-- the first with the earliest deadline enters
tail_some : (b : Bool) (due : ℕ) (o : Option ℕ) (m : ℕ) → earlier b due o ≡ Some m → (b && eqb due m) ≡ false → o ≡ Some m
tail_some true due None m e f = let q : due ≡ m = cc in absurd (both_ways (eqb due m) f (eq-eqb due m q))
tail_some true due (Some x) m e f =
    let q : min due x ≡ m = cc in
    let n : (due ≡ m → ⊥) = λ h. both_ways (eqb due m) f (eq-eqb due m h) in
    let r : x ≡ m = omega arith in
    ap Some r
tail_some false due o m e f = e

enters_at : (c m : ℕ) (ss : List Slot) → earliest_due c ss ≡ Some m → Change (Chosen c m) (after_event Enter) ss (enter_due c m ss)
enters_at c m [] e = absurd cc
enters_at c m (s ∷ ss) e =
    cond_both (ready_on c s && eqb s.due m) ((after_event Enter) s ∷ ss) (s ∷ enter_due c m ss) (λ l. Change (Chosen c m) (after_event Enter) (s ∷ ss) l)
    (λ t. let p = and_parts (ready_on c s) (eqb s.due m) t in let q = and_parts (runs_on c s) (is_ready s.job) p.0 in here (q.0, q.1, eqb-true s.due m p.1))
    (λ f. there (enters_at c m ss (tail_some (ready_on c s) s.due (earliest_due c ss) m e f)))

pub entered : (c : ℕ) (ss : List Slot) → Entered c ss (enter_on c ss)
entered c ss = cond_both (busy c ss) ss (enter_earliest c (earliest_due c ss) ss) (λ l. Entered c ss l) (λ t. stays (λ _. (busy_counts c ss).0 t)) (λ f. go (earliest_due c ss) refl ((busy_counts c ss).1 f))
  where
    go : (o : Option ℕ) → earliest_due c ss ≡ o → sum_of (count_on c within) ss ≡ 0 → Entered c ss (enter_earliest c o ss)
    go None e z = stays (λ w. omega (arith, none_waits c ss e))
    go (Some m) e z = begins m z (λ d p. subst (Below d) e (earliest_below c ss d z p)) (enters_at c m ss e)

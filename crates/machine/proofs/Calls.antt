-- A release and an early keep the invariant, the start has it, and under it no job is at its deadline. Assumes nothing.
use Rattle.std.proofs.Common.{◌≡◌, ℕ, zero, suc, ◌+◌, ◌-◌, ◌*◌, ◌/◌, ◌<◌, ◌≤◌, max, Bool, true, false, cond, leb, List, [], ◌∷◌, map, Some, None, Option, sym, refl, ap, ◌∙◌, subst, inl, inr, mul-le-mul_left, arith}
use native.Mathlib.Nat.{div-eq-sub-div}
use Rattle.std.specs.List.{AllByRecursion, slice_get}
use Rattle.std.proofs.ByRecursion.{All-get_or}
use Rattle.std.proofs.lemmas.Bool.{leb-true, cond_both, cases_Bool, cond-true, cond-false, cases_eq, le-leb, eq-eqb, both_ways}
use Rattle.bounded.specs.Lists.{list_of}
use Rattle.coretests.specs.Steps.{div_mono}
use Rattle.machine.specs.declared.types.Assigned.{Assigned}
use Rattle.machine.specs.declared.types.Job.{Job}
use Rattle.machine.specs.declared.types.Job.TheVariants.{Idle, Ready, Inside}
use Rattle.machine.specs.declared.types.Slot.{Slot}
use Rattle.machine.specs.declared.types.Event.TheVariants.{Release, Early}
use Rattle.machine.specs.Slots.{step_job, is_idle, runs_on, period_passed, released, ended_on, change_at, unreleased}
use Rattle.machine.specs.Schedulable.{SoundTask, Schedulable}
use Rattle.machine.proofs.Sums.{sum_of, guard_le, guard_split, map_le, map_all, all_from, Change, here, there, change_le, change_add, change_all, change_map, map-map}
use Rattle.machine.proofs.Weight.{tasks_in, count_on, load_of, rest, asks, earliest, weight, pends, pending, in_job, within, Well, Fine, rest_more, early_asks, early_pends, early_in, early_well}
use Rattle.machine.proofs.Tick.{Invariant}
use Rattle.machine.proofs.Fresh.{could, fresh}

-- an early
ended_asks : (b : Bool) (d : ℕ) (t : Assigned) (j : Job) (due : ℕ) → asks d t (cond b (step_job t j Early) j) due ≤ asks d t j due
ended_asks true d t j due = early_asks d t j due
ended_asks false d t j due = omega arith

ended_pends : (b : Bool) (d : ℕ) (t : Assigned) (j : Job) (due : ℕ) → pends d (cond b (step_job t j Early) j) due ≤ pends d j due
ended_pends true d t j due = early_pends d t j due
ended_pends false d t j due = omega arith

ended_in : (b : Bool) (t : Assigned) (j : Job) → in_job (cond b (step_job t j Early) j) ≤ in_job j
ended_in true t j = early_in t j
ended_in false t j = omega arith

ended_well : (b : Bool) (now : ℕ) (t : Assigned) (j : Job) (due : ℕ) → Well 1 now t j due → Well 1 now t (cond b (step_job t j Early) j) due
ended_well true now t j due w = early_well 1 now t j due w
ended_well false now t j due w = w

pub early_keeps : (cores now : ℕ) (tasks : List Assigned) (ss : List Slot) (o : ℕ) → Invariant cores 1 now tasks ss → Invariant cores 1 now tasks (map (ended_on o) ss)
early_keeps cores now tasks ss o i = record {
  same = map-map (λ s. s.task) (ended_on o) (λ s. refl) ss ∙ i.same;
  fine = map_all (Fine cores 1 now) (Fine cores 1 now) (ended_on o) (λ s f. record { sound = f.sound; well = ended_well (runs_on o s) now s.task s.job s.due f.well }) ss i.fine;
  one = λ c. omega (arith, i.one c, map_le (Fine cores 1 now) (ended_on o) (count_on c within) (count_on c within) (λ s f. guard_le (runs_on c s) (within (ended_on o s)) (within s) (ended_in (runs_on o s) s.task s.job)) ss i.fine);
  fits = λ c d p.
      let fewer = map_le (Fine cores 1 now) (ended_on o) (count_on c (pending d)) (count_on c (pending d)) (λ s f. guard_le (runs_on c s) (pending d (ended_on o s)) (pending d s) (ended_pends (runs_on o s) d s.task s.job s.due)) ss i.fine in
      let before : 1 ≤ sum_of (count_on c (pending d)) ss = omega arith in
      omega (arith, i.fits c d before, map_le (Fine cores 1 now) (ended_on o) (count_on c (weight d now)) (count_on c (weight d now)) (λ s f. guard_le (runs_on c s) (weight d now (ended_on o s)) (weight d now s) (omega (arith, ended_asks (runs_on o s) d s.task s.job s.due))) ss i.fine);
}

-- a release: one job fewer to come, and one more to do
one_fewer : (L T n d : ℕ) → 1 ≤ T → cond (leb n d) L 0 + L * ((d + T - (n + T)) / T) ≤ L * ((d + T - n) / T)
one_fewer L T n d p = elim (cases_Bool (leb n d)) [
  | inl t ↦
      let h : n ≤ d = leb-true n d t in
      let q : (d + T - n) / T ≡ (d + T - n - T) / T + 1 = div-eq-sub-div p (omega arith) in
      let r : d + T - n - T ≡ d + T - (n + T) = omega arith in
      let u : (d + T - n) / T ≡ (d + T - (n + T)) / T + 1 = q ∙ ap (λ x. x / T + 1) r in
      omega (arith, cond-true (leb n d) L 0 t, ap (λ x. L * x) u)
  | inr f ↦ omega (arith, cond-false (leb n d) L 0 f, mul-le-mul_left L (div_mono (d + T - (n + T)) (d + T - n) T p (omega arith)))
]

passed_now : (now : ℕ) (t : Assigned) (last : Option ℕ) → period_passed now t last ≡ true → earliest now t last ≡ now
passed_now now t None e = refl
passed_now now t (Some l) e = omega (arith, leb-true (l + t.period) now e)

-- a record whose release is accepted
abbrev pub Accepted : ℕ → Slot → Type 0
Accepted now s = (is_idle s.job ≡ true) × (period_passed now s.task s.last ≡ true)

pub release_job : (t : Assigned) (j : Job) → is_idle j ≡ true → step_job t j Release ≡ Ready 0
release_job t Idle e = refl
release_job t (Ready k) e = absurd (both_ways false refl e)
release_job t (Inside k left) e = absurd (both_ways false refl e)

release_in : (t : Assigned) (j : Job) → in_job (step_job t j Release) ≤ in_job j
release_in t Idle = omega arith
release_in t (Ready k) = omega arith
release_in t (Inside k left) = omega arith

module _ (cores now : ℕ) (s : Slot) (f : Fine cores 1 now s) (a : Accepted now s) where
  released-weight : (d : ℕ) → weight d now (released now s) ≤ weight d now s
  released-weight d =
      let t = s.task in
      let T : ℕ = t.period in
      let n : ℕ = now + t.deadline in
      let one : d + T - (max now (now + T) + t.deadline) ≡ d + T - (n + T) = omega arith in
      let two : d + T - (earliest now t s.last + t.deadline) ≡ d + T - n = omega (arith, passed_now now t s.last a.1) in
      omega (
        arith,
        one_fewer (load_of t) T n d (omega (arith, f.sound.some_time, f.sound.in_period)),
        ap (λ x. load_of t * (x / T)) one,
        ap (λ x. load_of t * (x / T)) two,
        ap (λ j. asks d t j n) (release_job t s.job a.0),
      )

  released_pends : (d : ℕ) → pending d (released now s) ≤ pending d s + could d now s
  released_pends d = omega (arith, ap (λ j. pends d j (now + s.task.deadline)) (release_job s.task s.job a.0))

  released_fine : Fine cores 1 now (released now s)
  released_fine = record { sound = f.sound; well = subst (λ (j : Job). Well 1 now s.task j (now + s.task.deadline)) (sym (release_job s.task s.job a.0)) (f.sound.some_region, omega arith) }

changed_at : (Q : Slot → Type 0) (g : Slot → Slot) (i : ℕ) (ss : List Slot) (s : Slot) → slice_get ss i ≡ Some s → Q s → Change Q g ss (change_at i g ss)
changed_at Q g i [] s e q = absurd cc
changed_at Q g zero (x ∷ ss) s e q = let same : x ≡ s = cc in here (subst Q (sym same) q)
changed_at Q g (suc i) (x ∷ ss) s e q = there (changed_at Q g i ss s e q)

module _ (cores now : ℕ) (tasks : List Assigned) (ss : List Slot) (fit : Schedulable cores tasks) (i : Invariant cores 1 now tasks ss) where
  release_change : {ss' : List Slot} → Change (Accepted now) (released now) ss ss' → Invariant cores 1 now tasks ss'
  release_change {ss'} ch = record {
    same = change_map (λ s. s.task) (released now) (λ s. refl) (Accepted now) ch ∙ i.same;
    fine = change_all (Fine cores 1 now) (Accepted now) (released now) (released_fine cores now) i.fine ch;
    one = λ c. omega (arith, i.one c, change_le (Fine cores 1 now) (Accepted now) (released now) (count_on c within) 0 0 (λ s f q. omega (arith, guard_le (runs_on c s) (within (released now s)) (within s) (release_in s.task s.job))) i.fine ch);
    fits = λ c d p.
        let less = change_le (Fine cores 1 now) (Accepted now) (released now) (count_on c (weight d now)) 0 0 (λ s f q. omega (arith, guard_le (runs_on c s) (weight d now (released now s)) (weight d now s) (released-weight cores now s f q d))) i.fine ch in
        let more = change_add (Fine cores 1 now) (Accepted now) (released now) (count_on c (pending d)) (count_on c (could d now)) (λ s f q. guard_split (runs_on c s) (pending d (released now s)) (pending d s) (could d now s) (released_pends cores now s f q d)) i.fine ch in
        elim (cases_eq (sum_of (count_on c (pending d)) ss) 0) [
          | inl z ↦ omega (arith, fresh cores c d now tasks ss fit i.same i.fine (i.one c) z (omega arith))
          | inr n ↦ omega (arith, i.fits c d (omega arith))
        ];
  }

  pub release_keeps : (k : ℕ) (s : Slot) → slice_get ss k ≡ Some s → Accepted now s → Invariant cores 1 now tasks (change_at k (released now) ss)
  release_keeps k s e a = release_change (changed_at (Accepted now) (released now) k ss s e a)

-- the start
unreleased-none : (c : ℕ) (f : Slot → ℕ) → ((t : Assigned) → f (unreleased t) ≡ 0) → (ts : List Assigned) → sum_of (count_on c f) (map unreleased ts) ≡ 0
unreleased-none c f e [] = refl
unreleased-none c f e (t ∷ ts) = omega (arith, guard_le (runs_on c (unreleased t)) (f (unreleased t)) 0 (omega (arith, e t)), cond_both {A = ℕ} (runs_on c (unreleased t)) 0 0 (λ n. n ≡ 0) (λ _. refl) (λ _. refl), unreleased-none c f e ts)

pub unreleased_tasks : (ts : List Assigned) → tasks_in (map unreleased ts) ≡ ts
unreleased_tasks [] = refl
unreleased_tasks (t ∷ ts) = ap (λ (l : List Assigned). t ∷ l) (unreleased_tasks ts)

unreleased_fine : (cores now : ℕ) (ts : List Assigned) → AllByRecursion (SoundTask cores) ts → AllByRecursion (Fine cores 1 now) (map unreleased ts)
unreleased_fine cores now [] a = tt
unreleased_fine cores now (t ∷ ts) a = (record { sound = a.0; well = tt }, unreleased_fine cores now ts a.1)

pub start_holds : (cores now : ℕ) (ts : List Assigned) → Schedulable cores ts → Invariant cores 1 now ts (map unreleased ts)
start_holds cores now ts fit = record {
  same = unreleased_tasks ts;
  fine = unreleased_fine cores now ts fit.sound;
  one = λ c. omega (arith, unreleased-none c within (λ t. refl) ts);
  fits = λ c d p. absurd (omega (arith, unreleased-none c (pending d) (λ t. refl) ts));
}

-- no job is at its deadline
abbrev pub InTime : ℕ → Job → ℕ → Type 0
InTime now Idle due = Unit {0}
InTime now (Ready k) due = now < due
InTime now (Inside k left) due = now < due

job_in_time : (cores now : ℕ) (t : Assigned) (j : Job) (due : ℕ) → SoundTask cores t → Well 1 now t j due → (1 ≤ pends due j due → now + asks due t j due ≤ due) → InTime now j due
job_in_time cores now t Idle due s w h = tt
job_in_time cores now t (Ready k) due s w h =
    let e : leb due due ≡ true = le-leb due due (omega arith) in
    omega (arith, h (omega (arith, cond-true {A = ℕ} (leb due due) 1 0 e)), cond-true (leb due due) (rest t k) 0 e, rest_more (list_of t.regions) k w.0, All-get_or (λ n. 1 ≤ n) (list_of t.regions) k 0 w.0 s.none_empty)
job_in_time cores now t (Inside k left) due s w h =
    let e : leb due due ≡ true = le-leb due due (omega arith) in
    omega (arith, h (omega (arith, cond-true {A = ℕ} (leb due due) 1 0 e)), w.1)

pub in_time_lem : (cores now : ℕ) (tasks : List Assigned) (ss : List Slot) → Invariant cores 1 now tasks ss → AllByRecursion (λ s. InTime now s.job s.due) ss
in_time_lem cores now tasks ss i = all_from (Fine cores 1 now) (λ s. InTime now s.job s.due) ss i.fine (λ s f m.
    let c : ℕ = s.task.core in
    let d : ℕ = s.due in
    let o : runs_on c s ≡ true = eq-eqb c c refl in
    let counts = cond-true (runs_on c s) (pending d s) 0 o in
    job_in_time cores now s.task s.job d f.sound f.well (λ p.
    omega (arith, cond-true (runs_on c s) (weight d now s) 0 o, m (count_on c (weight d now)), i.fits c d (omega (arith, m (count_on c (pending d)))))))

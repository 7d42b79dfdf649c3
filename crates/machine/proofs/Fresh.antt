-- Where no job of a core is due by d, and a release could make one so, what the core has to do by d fits before d. Assumes nothing.
use Rattle.std.proofs.Common.{◌≡◌, ℕ, suc, ◌+◌, ◌-◌, ◌*◌, ◌/◌, ◌<◌, ◌≤◌, Bool, true, false, cond, eqb, leb, List, [], ◌∷◌, ◌++◌, length, Option, sym, refl, ap, ◌∙◌, subst, inl, inr, mul-le-mul_left, mul-zero, arith}
use native.Mathlib.Nat.{div-eq_of_lt}
use Rattle.std.specs.List.{AllByRecursion}
use Rattle.std.proofs.ByRecursion.{All-get_or, all_kept_by, All-map, All-weaker}
use Rattle.std.proofs.lemmas.List.Sums.{sum_by-cons}
use Rattle.std.proofs.lemmas.Bool.{leb-true, leb-false, cond_both, cases_Bool, cond-true, cond-false, cases_eq}
use Rattle.bounded.specs.Lists.{list_of}
use Rattle.coretests.specs.Edf.{entry_demand, demand}
use Rattle.coretests.specs.Steps.{div_mono}
use Rattle.machine.specs.declared.types.Assigned.{Assigned}
use Rattle.machine.specs.declared.types.Job.{Job}
use Rattle.machine.specs.declared.types.Job.TheVariants.{Idle, Ready, Inside}
use Rattle.machine.specs.declared.types.Slot.{Slot}
use Rattle.machine.specs.Slots.{region_at, runs_on}
use Rattle.machine.specs.Schedulable.{entry_of, entries_of, tasks_on, first_deadline, Ordered, SoundTask, RegionFits, Schedulable}
use Rattle.machine.proofs.Sums.{sum_of, all_right, guard_when, guard_open, guard_none}
use Rattle.machine.proofs.Weight.{tasks_in, count_on, load_of, rest, asks, to_come, earliest_now, weight, pends, pending, in_job, within, Well, Fine}

-- the demand of a task, and of a list summed from the right
abbrev task_demand : ℕ → Assigned → ℕ
task_demand t i = entry_demand t (entry_of i)

abbrev demand_of : List Assigned → ℕ → ℕ
demand_of l t = sum_of (task_demand t) l

demand_is : (l : List Assigned) (t : ℕ) → demand (entries_of l) t ≡ demand_of l t
unfolding demand
demand_is [] t = refl
demand_is (i ∷ l) t = sum_by-cons (entry_demand t) (entry_of i) (entries_of l) ∙ ap (λ n. task_demand t i + n) (demand_is l t)

-- 1 for a task whose release now would be due by d
abbrev pub could : ℕ → ℕ → Slot → ℕ
could d now s = cond (leb (now + s.task.deadline) d) 1 0

not_due : (due d : ℕ) → ◌≡◌ {A = ℕ} (cond (leb due d) 1 0) 0 → d < due
not_due due d = cond_both (leb due d) 1 0 (λ n. n ≡ 0 → d < due) (λ _ h. omega arith) (λ e _. leb-false due d e)

-- the jobs to come
come_demand : (cores d now t : ℕ) (i : Assigned) (last : Option ℕ) → SoundTask cores i → now + t ≡ d → load_of i * to_come d now i last ≤ task_demand t i
come_demand cores d now t i last s e = mul-le-mul_left (load_of i) (div_mono _ _ i.period (omega (arith, s.some_time, s.in_period)) (omega (arith, earliest_now now i last, s.in_period)))

asks_none : (d : ℕ) (i : Assigned) (j : Job) (due : ℕ) → pends d j due ≡ 0 → in_job j ≡ 0 → asks d i j due ≡ 0
asks_none d i Idle due p w = refl
asks_none d i (Ready k) due p w = guard_none (leb due d) (rest i k) p
asks_none d i (Inside k left) due p w = omega arith

free_weight : (cores slack d now t : ℕ) (s : Slot) → Fine cores slack now s → now + t ≡ d → pending d s ≡ 0 → within s ≡ 0 → weight d now s ≤ task_demand t s.task
free_weight cores slack d now t s f e p w = omega (arith, asks_none d s.task s.job s.due p w, come_demand cores d now t s.task s.last f.sound e)

demand_if : (b : Bool) (i : Assigned) (l : List Assigned) (t : ℕ) → demand_of (cond b (i ∷ l) l) t ≡ cond b (task_demand t i) 0 + demand_of l t
demand_if true i l t = refl
demand_if false i l t = omega arith

free_sum : (cores slack c d now t : ℕ) (ss : List Slot) → AllByRecursion (Fine cores slack now) ss → now + t ≡ d → sum_of (count_on c (pending d)) ss ≡ 0 → sum_of (count_on c within) ss ≡ 0 → sum_of (count_on c (weight d now)) ss ≤ demand_of (tasks_on c (tasks_in ss)) t
free_sum cores slack c d now t [] a e p w = omega arith
free_sum cores slack c d now t (s ∷ ss) a e p w =
    let p0 : count_on c (pending d) s ≡ 0 = omega arith in
    let w0 : count_on c within s ≡ 0 = omega arith in
    omega (
      arith,
      free_sum cores slack c d now t ss a.1 e (omega arith) (omega arith),
      demand_if (runs_on c s) s.task (tasks_on c (tasks_in ss)) t,
      guard_when (runs_on c s) (weight d now s) (task_demand t s.task) (λ o. free_weight cores slack d now t s a.0 e (guard_open (runs_on c s) (pending d s) 0 p0 o) (guard_open (runs_on c s) (within s) 0 w0 o)),
    )

-- a region under way, of a job that is due after d: n is what the core has to do by d
record Blocked (t n : ℕ) (l : List Assigned) : Type 0 where
  before : List Assigned
  task : Assigned
  later : List Assigned
  k : ℕ
  split : l ≡ before ++ task ∷ later
  in_task : k < length (list_of task.regions)
  after_t : t < task.deadline
  bound : n + 1 ≤ region_at task k + demand_of l t

hit_job : (d now t : ℕ) (i : Assigned) (j : Job) (due : ℕ) → Well 1 now i j due → now + t ≡ d → pends d j due ≡ 0 → in_job j ≡ 1 → (k : ℕ) × (k < length (list_of i.regions)) × (t < i.deadline) × (asks d i j due + 1 ≤ region_at i k)
hit_job d now t i Idle due w e p n = absurd (omega arith)
hit_job d now t i (Ready k) due w e p n = absurd (omega arith)
hit_job d now t i (Inside k left) due w e p n = (k, w.0, omega (arith, not_due due d p, w.3), omega (arith, guard_none (leb due d) (rest i (suc k)) p, w.2))

blocked_if : (b : Bool) (i : Assigned) (l : List Assigned) (t w n : ℕ) → (b ≡ true → w ≤ task_demand t i) → Blocked t n l → Blocked t (cond b w 0 + n) (cond b (i ∷ l) l)
blocked_if true i l t w n h r = record { before = i ∷ r.before; task = r.task; later = r.later; k = r.k; split = ap (λ (x : List Assigned). i ∷ x) r.split; in_task = r.in_task; after_t = r.after_t; bound = omega (arith, r.bound, h refl) }
blocked_if false i l t w n h r = record { before = r.before; task = r.task; later = r.later; k = r.k; split = r.split; in_task = r.in_task; after_t = r.after_t; bound = omega (arith, r.bound) }

hit_if : (cores c d now t : ℕ) (s : Slot) (b : Bool) (l : List Assigned) (n : ℕ) → Fine cores 1 now s → now + t ≡ d → cond b (pending d s) 0 ≡ 0 → cond b (within s) 0 ≡ 1 → n ≤ demand_of l t → Blocked t (cond b (weight d now s) 0 + n) (cond b (s.task ∷ l) l)
hit_if cores c d now t s true l n f e p w h =
    let r = hit_job d now t s.task s.job s.due f.well e p w in
    record { before = []; task = s.task; later = l; k = r.0; split = refl; in_task = r.1; after_t = r.2; bound = omega (arith, r.3, h, come_demand cores d now t s.task s.last f.sound e) }
hit_if cores c d now t s false l n f e p w h = absurd (omega arith)

blocked_sum : (cores c d now t : ℕ) (ss : List Slot) → AllByRecursion (Fine cores 1 now) ss → now + t ≡ d → sum_of (count_on c (pending d)) ss ≡ 0 → sum_of (count_on c within) ss ≡ 1 → Blocked t (sum_of (count_on c (weight d now)) ss) (tasks_on c (tasks_in ss))
blocked_sum cores c d now t [] a e p w = absurd (omega arith)
blocked_sum cores c d now t (s ∷ ss) a e p w =
    let p0 : count_on c (pending d) s ≡ 0 = omega arith in
    elim (cases_eq (count_on c within s) 0) [
      | inl z ↦
          blocked_if (runs_on c s) s.task (tasks_on c (tasks_in ss)) t (weight d now s) (sum_of (count_on c (weight d now)) ss)
          (λ o. free_weight cores 1 d now t s a.0 e (guard_open (runs_on c s) (pending d s) 0 p0 o) (guard_open (runs_on c s) (within s) 0 z o))
          (blocked_sum cores c d now t ss a.1 e (omega arith) (omega arith))
      | inr n ↦ hit_if cores c d now t s (runs_on c s) (tasks_on c (tasks_in ss)) (sum_of (count_on c (weight d now)) ss) a.0 e p0 (omega arith) (free_sum cores 1 c d now t ss a.1 e (omega arith) (omega arith))
    ]

-- the end of a list, and its demand
ordered-from : (a : List Assigned) (l : List Assigned) → Ordered (a ++ l) → Ordered l
ordered-from [] l o = o
ordered-from (i ∷ a) l o = ordered-from a l o.1

demand-append : (a l : List Assigned) (t : ℕ) → demand_of (a ++ l) t ≡ demand_of a t + demand_of l t
demand-append [] l t = omega arith
demand-append (i ∷ a) l t = omega (arith, demand-append a l t)

-- tasks with a deadline past t ask for nothing within t
late_none : (cores : ℕ) (i : Assigned) (t : ℕ) → SoundTask cores i → t < i.deadline → task_demand t i ≡ 0
late_none cores i t s h =
    let z : (t + i.period - i.deadline) / i.period ≡ 0 = div-eq_of_lt (omega (arith, s.in_period)) in
    ap (λ n. load_of i * n) z ∙ mul-zero (load_of i)

late_all : (cores t x : ℕ) (l : List Assigned) → AllByRecursion (SoundTask cores) l → AllByRecursion (λ j. x ≤ j.deadline) l → t < x → demand_of l t ≡ 0
late_all cores t x [] s a h = refl
late_all cores t x (i ∷ l) s a h = omega (arith, late_none cores i t s.0 (omega (arith, a.0)), late_all cores t x l s.1 a.1 h)

-- some deadline that could be met by d
could_low : (c d now x : ℕ) (ss : List Slot) → AllByRecursion (λ j. x ≤ j.deadline) (tasks_on c (tasks_in ss)) → 1 ≤ sum_of (count_on c (could d now)) ss → now + x ≤ d
could_low c d now x [] a h = omega arith
could_low c d now x (s ∷ ss) a h =
    elim (cases_Bool (runs_on c s)) [
      | inl o ↦
          let b : AllByRecursion (λ j. x ≤ j.deadline) (s.task ∷ tasks_on c (tasks_in ss)) = subst (AllByRecursion (λ j. x ≤ j.deadline)) (cond-true (runs_on c s) (s.task ∷ tasks_on c (tasks_in ss)) (tasks_on c (tasks_in ss)) o) a in
          elim (cases_Bool (leb (now + s.task.deadline) d)) [
            | inl t ↦ omega (arith, leb-true (now + s.task.deadline) d t, b.0)
            | inr f ↦ could_low c d now x ss b.1 (omega (arith, cond-true (runs_on c s) (could d now s) 0 o, cond-false {A = ℕ} (leb (now + s.task.deadline) d) 1 0 f))
          ]
      | inr o ↦ could_low c d now x ss (subst (AllByRecursion (λ j. x ≤ j.deadline)) (cond-false (runs_on c s) (s.task ∷ tasks_on c (tasks_in ss)) (tasks_on c (tasks_in ss)) o) a) (omega (arith, cond-false (runs_on c s) (could d now s) 0 o))
    ]

first_low : (c d now : ℕ) (ss : List Slot) → Ordered (tasks_on c (tasks_in ss)) → 1 ≤ sum_of (count_on c (could d now)) ss → now + first_deadline (tasks_on c (tasks_in ss)) ≤ d
first_low c d now [] ord h = omega arith
first_low c d now (s ∷ ss) ord h = elim (cases_Bool (runs_on c s)) [
  | inl o ↦
      let e : tasks_on c (tasks_in (s ∷ ss)) ≡ s.task ∷ tasks_on c (tasks_in ss) = cond-true (runs_on c s) (s.task ∷ tasks_on c (tasks_in ss)) (tasks_on c (tasks_in ss)) o in
      let t : Ordered (s.task ∷ tasks_on c (tasks_in ss)) = subst Ordered e ord in
      subst (λ (l : List Assigned). now + first_deadline l ≤ d) (sym e) (could_low c d now s.task.deadline (s ∷ ss) (subst (AllByRecursion (λ j. s.task.deadline ≤ j.deadline)) (sym e) (omega arith, t.0)) h)
  | inr o ↦
      let e : tasks_on c (tasks_in (s ∷ ss)) ≡ tasks_on c (tasks_in ss) = cond-false (runs_on c s) (s.task ∷ tasks_on c (tasks_in ss)) (tasks_on c (tasks_in ss)) o in
      subst (λ (l : List Assigned). now + first_deadline l ≤ d) (sym e) (first_low c d now ss (subst Ordered e ord) (omega (arith, cond-false (runs_on c s) (could d now s) 0 o)))
]

blocked_bound : (cores c t n : ℕ) (tasks : List Assigned) → Schedulable cores tasks → first_deadline (tasks_on c tasks) ≤ t → Blocked t n (tasks_on c tasks) → n ≤ t
blocked_bound cores c t n tasks fit low r =
    let l = tasks_on c tasks in
    let tail = r.task ∷ r.later in
    let parts : demand_of l t ≡ demand_of r.before t + demand_of tail t = ap (λ x. demand_of x t) r.split ∙ demand-append r.before tail t in
    let ord : Ordered tail = ordered-from r.before tail (subst Ordered r.split (fit.ordered c)) in
    let snd : AllByRecursion (SoundTask cores) tail = all_right (SoundTask cores) r.before tail (subst (AllByRecursion (SoundTask cores)) r.split (all_kept_by (λ j. eqb j.core c) (SoundTask cores) tasks fit.sound)) in
    let nothing : demand_of tail t ≡ 0 = late_all cores t r.task.deadline tail snd (omega arith, ord.0) r.after_t in
    omega (arith, r.bound, All-get_or (RegionFits (first_deadline l) r.before r.task.deadline) (list_of r.task.regions) r.k 0 r.in_task (fit.region_fits c r.before r.task r.later r.split) t low r.after_t, demand_is r.before t)

pub fresh : (cores c d now : ℕ) (tasks : List Assigned) (ss : List Slot) → Schedulable cores tasks → tasks_in ss ≡ tasks → AllByRecursion (Fine cores 1 now) ss
    → sum_of (count_on c within) ss ≤ 1 → sum_of (count_on c (pending d)) ss ≡ 0 → 1 ≤ sum_of (count_on c (could d now)) ss → now + sum_of (count_on c (weight d now)) ss ≤ d
fresh cores c d now tasks ss fit same a one p h =
    let later : now + 1 ≤ d = could_low c d now 1 ss (all_kept_by (λ j. eqb j.core c) (λ j. 1 ≤ j.deadline) (tasks_in ss) (All-map (λ j. 1 ≤ j.deadline) (λ s. s.task) ss (All-weaker (Fine cores 1 now) (λ s. 1 ≤ s.task.deadline) (λ s f. f.sound.some_time) ss a))) h in
    let e : now + (d - now) ≡ d = omega arith in
    let low : now + first_deadline (tasks_on c tasks) ≤ d = subst (λ (x : List Assigned). now + first_deadline (tasks_on c x) ≤ d) same (first_low c d now ss (subst (λ (x : List Assigned). Ordered (tasks_on c x)) (sym same) (fit.ordered c)) h) in
    elim (cases_eq (sum_of (count_on c within) ss) 0) [
      | inl z ↦ omega (arith, fit.demand_fits c (d - now) (omega arith), demand_is (tasks_on c tasks) (d - now), subst (λ (x : List Assigned). sum_of (count_on c (weight d now)) ss ≤ demand_of (tasks_on c x) (d - now)) same (free_sum cores 1 c d now (d - now) ss a e p z))
      | inr n ↦ omega (arith, blocked_bound cores c (d - now) (sum_of (count_on c (weight d now)) ss) tasks fit (omega arith) (subst (λ (x : List Assigned). Blocked (d - now) (sum_of (count_on c (weight d now)) ss) (tasks_on c x)) same (blocked_sum cores c d now (d - now) ss a e p (omega arith))))
    ]

-- The invariant of the machine, and that a tick keeps it. Assumes nothing.
use Rattle.std.proofs.Common.{◌≡◌, ℕ, zero, suc, ◌+◌, ◌≤◌, true, false, leb, List, [], ◌∷◌, sym, refl, ◌∙◌, subst, inl, inr, arith}
use Rattle.std.specs.List.{AllByRecursion}
use Rattle.std.proofs.ByRecursion.{All-get_or, All-weaker}
use Rattle.std.proofs.lemmas.Bool.{le-leb, cond_both, cases_Bool, eqb-true, ne_eqb, both_ways, cond-true, cond-false, cases_eq}
use Rattle.bounded.specs.Lists.{list_of}
use Rattle.machine.specs.declared.types.Assigned.{Assigned}
use Rattle.machine.specs.declared.types.Job.{Job}
use Rattle.machine.specs.declared.types.Job.TheVariants.{Idle, Ready, Inside}
use Rattle.machine.specs.declared.types.Slot.{Slot}
use Rattle.machine.specs.declared.types.Event.TheVariants.{Enter, Tick}
use Rattle.machine.specs.Slots.{step_job, is_ready, runs_on, after_event, enter_on, enter_all, tick_all}
use Rattle.machine.specs.Schedulable.{SoundTask}
use Rattle.machine.proofs.Sums.{sum_of, guard_le, guard_when, guard_bound, guard_split, guard_joined, map-sum, map_le, sum_split, map_all, Change, change_le, change_ge, change_all, change_map, map-map}
use Rattle.machine.proofs.Weight.{tasks_in, count_on, rest, asks, weight, pends, pending, in_job, within, wait_job, waits, Well, Fine, rest_more, to_come_later, tick_asks, tick_pends, tick_in, tick_well}
use Rattle.machine.proofs.Enter.{Chosen, Entered, stays, begins, entered}

-- What holds between calls with slack 1, and within a tick with slack 0: the records are fine; on each core at most one region is under way;
-- and if some job of a core is due by d, the clock and all that the core has to do by d come to at most d.
pub record Invariant (cores slack now : ℕ) (tasks : List Assigned) (ss : List Slot) : Type 0 where
  pub same : tasks_in ss ≡ tasks
  pub fine : AllByRecursion (Fine cores slack now) ss
  pub one : (c : ℕ) → sum_of (count_on c within) ss ≤ 1
  pub fits : (c d : ℕ) → 1 ≤ sum_of (count_on c (pending d)) ss → now + sum_of (count_on c (weight d now)) ss ≤ d

-- what entering does to the record that enters
enter_asks : (d now : ℕ) (t : Assigned) (j : Job) (due : ℕ) → Well 0 now t j due → due ≤ d → asks d t (step_job t j Enter) due ≤ asks d t j due
enter_asks d now t Idle due w h = omega arith
enter_asks d now t (Ready k) due w h = omega (arith, rest_more (list_of t.regions) k w.0, cond-true (leb due d) (rest t k) 0 (le-leb due d h), cond-true (leb due d) (rest t (suc k)) 0 (le-leb due d h))
enter_asks d now t (Inside k left) due w h = omega arith

enter_pends : (d : ℕ) (t : Assigned) (j : Job) (due : ℕ) → pends d (step_job t j Enter) due ≡ pends d j due
enter_pends d t Idle due = refl
enter_pends d t (Ready k) due = refl
enter_pends d t (Inside k left) due = refl

enter_in : (t : Assigned) (j : Job) → (in_job j ≤ in_job (step_job t j Enter)) × (in_job (step_job t j Enter) ≤ 1) × (wait_job (step_job t j Enter) ≤ wait_job j)
enter_in t Idle = omega arith
enter_in t (Ready k) = omega arith
enter_in t (Inside k left) = omega arith

enter_more : (t : Assigned) (j : Job) → is_ready j ≡ true → in_job j + 1 ≤ in_job (step_job t j Enter)
enter_more t Idle e = absurd (both_ways false refl e)
enter_more t (Ready k) e = omega arith
enter_more t (Inside k left) e = absurd (both_ways false refl e)

enter_well : (cores now : ℕ) (t : Assigned) (j : Job) (due : ℕ) → SoundTask cores t → Well 0 now t j due → Well 0 now t (step_job t j Enter) due
enter_well cores now t Idle due s w = tt
enter_well cores now t (Ready k) due s w = (w.0, All-get_or (λ n. 1 ≤ n) (list_of t.regions) k 0 w.0 s.none_empty, omega arith, w.1)
enter_well cores now t (Inside k left) due s w = w

-- a record counts nothing on another core
on_other : (c c' : ℕ) (s : Slot) → runs_on c s ≡ true → (c' ≡ c → ⊥) → runs_on c' s ≡ false
on_other c c' s e n = ne_eqb s.task.core c' (λ h. n (omega (arith, eqb-true s.task.core c e)))

abbrev Good : ℕ → ℕ → Slot → Type 0
Good cores now s = Fine cores 0 now s

module _ (cores now : ℕ) (tasks : List Assigned) (c m : ℕ) {ss ss' : List Slot} (i : Invariant cores 0 now tasks ss) (z : sum_of (count_on c within) ss ≡ 0) (low : (d : ℕ) → 1 ≤ sum_of (count_on c (pending d)) ss → m ≤ d) (ch : Change (Chosen c m) (after_event Enter) ss ss') where
  -- what no record of the core counts more of by entering, the core counts no more of
  less : (f : Slot → ℕ) (c' : ℕ) → ((s : Slot) → Good cores now s → Chosen c m s → runs_on c' s ≡ true → f (after_event Enter s) ≤ f s) → sum_of (count_on c' f) ss' ≤ sum_of (count_on c' f) ss
  less f c' h =
      omega (arith, change_le (Good cores now) (Chosen c m) (after_event Enter) (count_on c' f) 0 0 (λ s g q. omega (arith, guard_when (runs_on c' s) (f (after_event Enter s)) (f s) (h s g q))) i.fine ch)

  pend_same : (c' d : ℕ) → sum_of (count_on c' (pending d)) ss' ≤ sum_of (count_on c' (pending d)) ss
  pend_same c' d = less (pending d) c' (λ s f q o. omega (arith, enter_pends d s.task s.job s.due))

  weight_same : (c' d : ℕ) → (c' ≡ c → m ≤ d) → sum_of (count_on c' (weight d now)) ss' ≤ sum_of (count_on c' (weight d now)) ss
  weight_same c' d h = less (weight d now) c' (λ s f q o.
      let e : c' ≡ c = omega (arith, eqb-true s.task.core c' o, eqb-true s.task.core c q.0) in
      let l : m ≤ d = h e in
      omega (arith, enter_asks d now s.task s.job s.due f.well (omega (arith, q.2))))

  wait_less : (c' : ℕ) → sum_of (count_on c' waits) ss' ≤ sum_of (count_on c' waits) ss
  wait_less c' = less waits c' (λ s f q o. (enter_in s.task s.job).2)

  in_more : (c' : ℕ) → sum_of (count_on c' within) ss ≤ sum_of (count_on c' within) ss'
  in_more c' = omega (arith, change_ge (Good cores now) (Chosen c m) (after_event Enter) (count_on c' within) 0 0 (λ s f q. omega (arith, guard_le (runs_on c' s) (within s) (within (after_event Enter s)) (enter_in s.task s.job).0)) i.fine ch)

  in_here : sum_of (count_on c within) ss + 1 ≤ sum_of (count_on c within) ss'
  in_here = omega (arith, change_ge (Good cores now) (Chosen c m) (after_event Enter) (count_on c within) 1 0 (λ s f q. omega (arith, cond-true (runs_on c s) (within s) 0 q.0, cond-true (runs_on c s) (within (after_event Enter s)) 0 q.0, enter_more s.task s.job q.1)) i.fine ch)

  in_one : (c' : ℕ) → sum_of (count_on c' within) ss' ≤ 1
  in_one c' = elim (cases_eq c' c) [
    | inl e ↦
        let before : sum_of (count_on c' within) ss ≡ 0 = subst (λ (x : ℕ). sum_of (count_on x within) ss ≡ 0) (sym e) z in
        omega (arith, change_le (Good cores now) (Chosen c m) (after_event Enter) (count_on c' within) 0 1 (λ s f q. omega (arith, guard_bound (runs_on c' s) (within (after_event Enter s)) 1 (enter_in s.task s.job).1)) i.fine ch)
    | inr n ↦ omega (arith, i.one c', change_le (Good cores now) (Chosen c m) (after_event Enter) (count_on c' within) 0 0 (λ s f q. omega (arith, cond-false (runs_on c' s) (within (after_event Enter s)) 0 (on_other c c' s q.0 n))) i.fine ch)
  ]

  enter_keeps : Invariant cores 0 now tasks ss'
  enter_keeps = record {
    same = change_map (λ s. s.task) (after_event Enter) (λ s. refl) (Chosen c m) ch ∙ i.same;
    fine = change_all (Good cores now) (Chosen c m) (after_event Enter) (λ s f q. record { sound = f.sound; well = enter_well cores now s.task s.job s.due f.sound f.well }) i.fine ch;
    one = in_one;
    fits = λ c' d p. let q : 1 ≤ sum_of (count_on c' (pending d)) ss = omega (arith, pend_same c' d) in omega (arith, i.fits c' d q, weight_same c' d (λ e. low d (subst (λ (x : ℕ). 1 ≤ sum_of (count_on x (pending d)) ss) e q)));
  }

-- entering keeps the invariant; and after it no job of the core waits while nothing runs there
abbrev Served : ℕ → List Slot → Type 0
Served c ss = 1 ≤ sum_of (count_on c waits) ss → 1 ≤ sum_of (count_on c within) ss

enter_inv : (cores now : ℕ) (tasks : List Assigned) (c : ℕ) (ss ss' : List Slot) → Invariant cores 0 now tasks ss → Entered c ss ss' → Invariant cores 0 now tasks ss'
enter_inv cores now tasks c ss ss' i (stays h) = i
enter_inv cores now tasks c ss ss' i (begins m z low ch) = enter_keeps cores now tasks c m i z low ch

enter_served : (cores now : ℕ) (tasks : List Assigned) (c : ℕ) (ss ss' : List Slot) → Invariant cores 0 now tasks ss → Entered c ss ss' → Served c ss'
enter_served cores now tasks c ss ss' i (stays h) = h
enter_served cores now tasks c ss ss' i (begins m z low ch) = λ _. omega (arith, in_here cores now tasks c m i z low ch)

enter_serving : (cores now : ℕ) (tasks : List Assigned) (c : ℕ) (ss ss' : List Slot) → Invariant cores 0 now tasks ss → Entered c ss ss' → (c' : ℕ) → Served c' ss → Served c' ss'
enter_serving cores now tasks c ss ss' i (stays h) c' s = s
enter_serving cores now tasks c ss ss' i (begins m z low ch) c' s = λ w. let v : 1 ≤ sum_of (count_on c' within) ss = s (omega (arith, wait_less cores now tasks c m i z low ch c')) in omega (arith, in_more cores now tasks c m i z low ch c')

pub enter_all_inv : (cores now : ℕ) (tasks : List Assigned) (ss : List Slot) → Invariant cores 0 now tasks ss → (n : ℕ) → Invariant cores 0 now tasks (enter_all n ss) × ((c : ℕ) → 1 ≤ c → c ≤ n → Served c (enter_all n ss))
enter_all_inv cores now tasks ss i zero = (i, λ c l h. absurd (omega arith))
enter_all_inv cores now tasks ss i (suc n) =
    let ih = enter_all_inv cores now tasks ss i n in
    let was = enter_all n ss in
    let e = entered (suc n) was in (
      enter_inv cores now tasks (suc n) was (enter_on (suc n) was) ih.0 e,
      λ c l h. elim (cases_eq c (suc n)) [
        | inl q ↦ subst (λ (x : ℕ). Served x (enter_on (suc n) was)) (sym q) (enter_served cores now tasks (suc n) was (enter_on (suc n) was) ih.0 e)
        | inr q ↦ enter_serving cores now tasks (suc n) was (enter_on (suc n) was) ih.0 e c (ih.1 c l (omega arith))
      ],
    )

-- each region under way loses a tick
pends_some : (d : ℕ) (j : Job) (due : ℕ) → pends d j due ≤ wait_job j + in_job j
pends_some d Idle due = omega arith
pends_some d (Ready k) due = cond_both (leb due d) 1 0 (λ n. n ≤ 1 + 0) (λ _. omega arith) (λ _. omega arith)
pends_some d (Inside k left) due = cond_both (leb due d) 1 0 (λ n. n ≤ 0 + 1) (λ _. omega arith) (λ _. omega arith)

core_known : (cores slack now c : ℕ) (f : Slot → ℕ) (ss : List Slot) → AllByRecursion (Fine cores slack now) ss → 1 ≤ sum_of (count_on c f) ss → (1 ≤ c) × (c ≤ cores)
core_known cores slack now c f [] a h = absurd (omega arith)
core_known cores slack now c f (s ∷ ss) a h = elim (cases_Bool (runs_on c s)) [
  | inl e ↦ let q : s.task.core ≡ c = eqb-true s.task.core c e in (omega (arith, a.0.sound.low), omega (arith, a.0.sound.high))
  | inr e ↦ core_known cores slack now c f ss a.1 (omega (arith, cond-false (runs_on c s) (f s) 0 e))
]

ticked_weight : (cores d now : ℕ) (s : Slot) → Fine cores 0 now s → weight d (suc now) (after_event Tick s) + within s ≤ weight d now s
ticked_weight cores d now s f = omega (arith, tick_asks d now s.task s.job s.due f.well, to_come_later d now s.task s.last (omega (arith, f.sound.some_time, f.sound.in_period)))

pub ticked_keeps : (cores now : ℕ) (tasks : List Assigned) (ss : List Slot) → Invariant cores 0 now tasks ss → ((c : ℕ) → 1 ≤ c → c ≤ cores → Served c ss) → Invariant cores 1 (suc now) tasks (tick_all ss)
ticked_keeps cores now tasks ss i served = record {
  same = map-map (λ s. s.task) (after_event Tick) (λ s. refl) ss ∙ i.same;
  fine = map_all (Good cores now) (Fine cores 1 (suc now)) (after_event Tick) (λ s f. record { sound = f.sound; well = tick_well now s.task s.job s.due f.well }) ss i.fine;
  one = λ c. omega (arith, i.one c, map_le (Good cores now) (after_event Tick) (count_on c within) (count_on c within) (λ s f. guard_le (runs_on c s) (within (after_event Tick s)) (within s) (tick_in s.task s.job)) ss i.fine);
  fits = λ c d p.
      let fewer = map_le (Good cores now) (after_event Tick) (count_on c (pending d)) (count_on c (pending d)) (λ s f. guard_le (runs_on c s) (pending d (after_event Tick s)) (pending d s) (tick_pends d s.task s.job s.due)) ss i.fine in
      let before : 1 ≤ sum_of (count_on c (pending d)) ss = omega arith in
      let known = core_known cores 0 now c (pending d) ss i.fine before in
      let split = sum_split (Good cores now) (count_on c (pending d)) (count_on c waits) (count_on c within) (λ s f. guard_split (runs_on c s) (pending d s) (waits s) (within s) (pends_some d s.job s.due)) ss i.fine in
      let runs : 1 ≤ sum_of (count_on c within) ss = elim (cases_eq (sum_of (count_on c waits) ss) 0) [ inl e ↦ omega arith | inr n ↦ served c known.0 known.1 (omega arith) ] in
      omega (
        arith,
        i.fits c d before,
        map-sum (Good cores now) (after_event Tick) (count_on c (weight d (suc now))) (count_on c within) (count_on c (weight d now)) (λ s f. guard_joined (runs_on c s) (weight d (suc now) (after_event Tick s)) (within s) (weight d now s) (ticked_weight cores d now s f)) ss i.fine,
      );
}

-- a whole tick
slacker : (now : ℕ) (t : Assigned) (j : Job) (due : ℕ) → Well 1 now t j due → Well 0 now t j due
slacker now t Idle due w = tt
slacker now t (Ready k) due w = w
slacker now t (Inside k left) due w = (w.0, w.1, omega (arith, w.2), w.3)

pub weaker : (cores now : ℕ) (tasks : List Assigned) (ss : List Slot) → Invariant cores 1 now tasks ss → Invariant cores 0 now tasks ss
weaker cores now tasks ss i = record { same = i.same; fine = All-weaker (Fine cores 1 now) (Fine cores 0 now) (λ s f. record { sound = f.sound; well = slacker now s.task s.job s.due f.well }) ss i.fine; one = i.one; fits = i.fits }

pub tick_keeps : (cores now : ℕ) (tasks : List Assigned) (ss : List Slot) → Invariant cores 1 now tasks ss → Invariant cores 1 (suc now) tasks (tick_all (enter_all cores ss))
tick_keeps cores now tasks ss i =
    let all = enter_all_inv cores now tasks ss (weaker cores now tasks ss i) cores in
    ticked_keeps cores now tasks (enter_all cores ss) all.0 all.1

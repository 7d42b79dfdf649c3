-- What a job record still asks of its core before a horizon d, and what events do to it. Assumes nothing.
use Rattle.std.proofs.Common.{◌≡◌, ℕ, zero, suc, ◌+◌, ◌-◌, ◌*◌, ◌/◌, ◌<◌, ◌≤◌, max, cond, ltb, leb, List, [], ◌∷◌, map, length, get_or, drop, Some, None, Option, refl, mul-le-mul_left, arith}
use Rattle.std.proofs.lemmas.Bool.{leb-false, cond_both, ltb-true}
use Rattle.bounded.specs.Lists.{list_of}
use Rattle.tasks.specs.Cuts.{total}
use Rattle.coretests.specs.Steps.{div_mono}
use Rattle.machine.specs.declared.types.Assigned.{Assigned}
use Rattle.machine.specs.declared.types.Job.{Job}
use Rattle.machine.specs.declared.types.Job.TheVariants.{Idle, Ready, Inside}
use Rattle.machine.specs.declared.types.Slot.{Slot}
use Rattle.machine.specs.declared.types.Event.TheVariants.{Tick, Early}
use Rattle.machine.specs.Slots.{region_at, after_region, step_job, runs_on}
use Rattle.machine.specs.Schedulable.{SoundTask}

-- the tasks of the records
abbrev pub tasks_in : List Slot → List Assigned
tasks_in ss = map (λ s. s.task) ss

-- what a record counts towards a core
abbrev pub count_on : ℕ → (Slot → ℕ) → Slot → ℕ
count_on c f s = cond (runs_on c s) (f s) 0

-- the length of all regions
abbrev pub load_of : Assigned → ℕ
load_of t = total (list_of t.regions)

-- the length of the regions from k on
abbrev pub rest : Assigned → ℕ → ℕ
rest t k = total (drop k (list_of t.regions))

-- the work left of a job that is due by d, or the ticks left of a region under way
abbrev pub asks : ℕ → Assigned → Job → ℕ → ℕ
asks d t Idle due = 0
asks d t (Ready k) due = cond (leb due d) (rest t k) 0
asks d t (Inside k left) due = left + cond (leb due d) (rest t (suc k)) 0

-- the first clock at which the task may be released
abbrev pub earliest : ℕ → Assigned → Option ℕ → ℕ
earliest now t None = now
earliest now t (Some l) = max now (l + t.period)

-- how many jobs can still be released with a deadline by d
abbrev pub to_come : ℕ → ℕ → Assigned → Option ℕ → ℕ
to_come d now t last = (d + t.period - (earliest now t last + t.deadline)) / t.period

-- what a record asks of its core by d, jobs to come included
abbrev pub weight : ℕ → ℕ → Slot → ℕ
weight d now s = asks d s.task s.job s.due + load_of s.task * to_come d now s.task s.last

-- 1 for a job that is not done and due by d
abbrev pub pends : ℕ → Job → ℕ → ℕ
pends d Idle due = 0
pends d (Ready k) due = cond (leb due d) 1 0
pends d (Inside k left) due = cond (leb due d) 1 0

abbrev pub pending : ℕ → Slot → ℕ
pending d s = pends d s.job s.due

-- 1 for a job inside a region
abbrev pub in_job : Job → ℕ
in_job Idle = 0
in_job (Ready k) = 0
in_job (Inside k left) = 1

abbrev pub within : Slot → ℕ
within s = in_job s.job

-- 1 for a job that waits to enter one
abbrev pub wait_job : Job → ℕ
wait_job Idle = 0
wait_job (Ready k) = 1
wait_job (Inside k left) = 0

abbrev pub waits : Slot → ℕ
waits s = wait_job s.job

-- a job as the machine makes it; between ticks a region under way has run for a tick, so the slack is 1
abbrev pub Well : ℕ → ℕ → Assigned → Job → ℕ → Type 0
Well slack now t Idle due = Unit {0}
Well slack now t (Ready k) due = (k < length (list_of t.regions)) × (due ≤ now + t.deadline)
Well slack now t (Inside k left) due = (k < length (list_of t.regions)) × (1 ≤ left) × (left + slack ≤ region_at t k) × (due ≤ now + t.deadline)

-- a record with a sound task and such a job
pub record Fine (cores slack now : ℕ) (s : Slot) : Type 0 where
  pub sound : SoundTask cores s.task
  pub well : Well slack now s.task s.job s.due

-- the jobs to come
pub earliest_later : (now : ℕ) (t : Assigned) (last : Option ℕ) → earliest now t last ≤ earliest (suc now) t last
earliest_later now t None = omega arith
earliest_later now t (Some l) = omega arith

pub earliest_now : (now : ℕ) (t : Assigned) (last : Option ℕ) → now ≤ earliest now t last
earliest_now now t None = omega arith
earliest_now now t (Some l) = omega arith

pub to_come_later : (d now : ℕ) (t : Assigned) (last : Option ℕ) → 1 ≤ t.period → load_of t * to_come d (suc now) t last ≤ load_of t * to_come d now t last
to_come_later d now t last p = mul-le-mul_left (load_of t) (div_mono _ _ t.period p (omega (arith, earliest_later now t last)))

-- regions
pub rest_more : (rs : List ℕ) (k : ℕ) → k < length rs → total (drop k rs) ≡ get_or rs k 0 + total (drop (suc k) rs)
rest_more [] k h = omega arith
rest_more (r ∷ rs) zero h = refl
rest_more (r ∷ rs) (suc k) h = rest_more rs k (omega arith)

-- the end of a region
pub after_asks : (d : ℕ) (t : Assigned) (k due : ℕ) → asks d t (after_region t k) due ≤ cond (leb due d) (rest t (suc k)) 0
after_asks d t k due = cond_both (ltb (suc k) (length (list_of t.regions))) (Ready (suc k)) Idle (λ j. asks d t j due ≤ cond (leb due d) (rest t (suc k)) 0) (λ _. omega arith) (λ _. omega arith)

pub after_in : (t : Assigned) (k : ℕ) → in_job (after_region t k) ≡ 0
after_in t k = cond_both (ltb (suc k) (length (list_of t.regions))) (Ready (suc k)) Idle (λ j. in_job j ≡ 0) (λ _. refl) (λ _. refl)

pub after_pends : (d : ℕ) (t : Assigned) (k due : ℕ) → pends d (after_region t k) due ≤ cond (leb due d) 1 0
after_pends d t k due = cond_both (ltb (suc k) (length (list_of t.regions))) (Ready (suc k)) Idle (λ j. pends d j due ≤ cond (leb due d) 1 0) (λ _. omega arith) (λ _. omega arith)

pub after_well : (slack now : ℕ) (t : Assigned) (k due : ℕ) → due ≤ now + t.deadline → Well slack now t (after_region t k) due
after_well slack now t k due h = cond_both (ltb (suc k) (length (list_of t.regions))) (Ready (suc k)) Idle (λ j. Well slack now t j due) (λ e. (ltb-true _ _ e, h)) (λ _. tt)

-- a tick
pub tick_asks : (d now : ℕ) (t : Assigned) (j : Job) (due : ℕ) → Well 0 now t j due → asks d t (step_job t j Tick) due + in_job j ≤ asks d t j due
tick_asks d now t Idle due w = omega arith
tick_asks d now t (Ready k) due w = omega arith
tick_asks d now t (Inside k left) due w = cond_both (leb left 1) (after_region t k) (Inside k (left - 1)) (λ j. asks d t j due + 1 ≤ left + cond (leb due d) (rest t (suc k)) 0) (λ _. omega (arith, w.1, after_asks d t k due)) (λ e. omega (arith, w.1))

pub tick_pends : (d : ℕ) (t : Assigned) (j : Job) (due : ℕ) → pends d (step_job t j Tick) due ≤ pends d j due
tick_pends d t Idle due = omega arith
tick_pends d t (Ready k) due = omega arith
tick_pends d t (Inside k left) due = cond_both (leb left 1) (after_region t k) (Inside k (left - 1)) (λ j. pends d j due ≤ cond (leb due d) 1 0) (λ _. after_pends d t k due) (λ e. omega arith)

pub tick_in : (t : Assigned) (j : Job) → in_job (step_job t j Tick) ≤ in_job j
tick_in t Idle = omega arith
tick_in t (Ready k) = omega arith
tick_in t (Inside k left) = cond_both (leb left 1) (after_region t k) (Inside k (left - 1)) (λ j. in_job j ≤ 1) (λ _. omega (arith, after_in t k)) (λ e. omega arith)

pub tick_well : (now : ℕ) (t : Assigned) (j : Job) (due : ℕ) → Well 0 now t j due → Well 1 (suc now) t (step_job t j Tick) due
tick_well now t Idle due w = tt
tick_well now t (Ready k) due w = (w.0, omega (arith, w.1))
tick_well now t (Inside k left) due w =
    cond_both (leb left 1) (after_region t k) (Inside k (left - 1)) (λ j. Well 1 (suc now) t j due)
    (λ _. after_well 1 (suc now) t k due (omega (arith, w.3)))
    (λ e. let g : 1 < left = leb-false left 1 e in (w.0, omega arith, omega (arith, w.2), omega (arith, w.3)))

-- an early end
pub early_asks : (d : ℕ) (t : Assigned) (j : Job) (due : ℕ) → asks d t (step_job t j Early) due ≤ asks d t j due
early_asks d t Idle due = omega arith
early_asks d t (Ready k) due = omega arith
early_asks d t (Inside k left) due = omega (arith, after_asks d t k due)

pub early_pends : (d : ℕ) (t : Assigned) (j : Job) (due : ℕ) → pends d (step_job t j Early) due ≤ pends d j due
early_pends d t Idle due = omega arith
early_pends d t (Ready k) due = omega arith
early_pends d t (Inside k left) due = after_pends d t k due

pub early_in : (t : Assigned) (j : Job) → in_job (step_job t j Early) ≤ in_job j
early_in t Idle = omega arith
early_in t (Ready k) = omega arith
early_in t (Inside k left) = omega (arith, after_in t k)

pub early_well : (slack now : ℕ) (t : Assigned) (j : Job) (due : ℕ) → Well slack now t j due → Well slack now t (step_job t j Early) due
early_well slack now t Idle due w = tt
early_well slack now t (Ready k) due w = w
early_well slack now t (Inside k left) due w = after_well slack now t k due w.3

-- Job records: what an event does to a job, and what a call does to one record or to all of them.
-- Places and cores count from 1, the regions of a task from 0.
use Rattle.std.specs.Prelude.{ℕ, zero, suc, ◌+◌, ◌-◌, min, Bool, true, false, cond, ◌&&◌, List, [], ◌∷◌, map, length, Some, None, Option, ◌==◌, nat_le, nat_lt, slice_index}
use Rattle.std.specs.List.{list_any, range_with_len}
use Rattle.bounded.specs.Lists.{list_of}
use Rattle.machine.specs.declared.types.Assigned.{Assigned}
use Rattle.machine.specs.declared.types.Job.{Job}
use Rattle.machine.specs.declared.types.Job.TheVariants.{Idle, Ready, Inside}
use Rattle.machine.specs.declared.types.Slot.{Slot}
use Rattle.machine.specs.declared.types.Event.{Event}
use Rattle.machine.specs.declared.types.Event.TheVariants.{Release, Enter, Tick, Early}

-- the length of region k of a task
abbrev pub region_at : Assigned → ℕ → ℕ
region_at t k = slice_index (list_of t.regions) k

-- what becomes of a job whose region k ends: it is ready for its next region, or idle after its last
abbrev pub after_region : Assigned → ℕ → Job
after_region t k = cond (nat_lt (suc k) (length (list_of t.regions))) (Ready (suc k)) Idle

-- What an event does to a job. A release makes an idle job ready for its first region; a ready job may enter its region;
-- a tick takes one tick off a region under way, which ends with its last; an early ends it at once. Nothing else changes a job.
abbrev pub step_job : Assigned → Job → Event → Job
step_job t Idle Release = Ready 0
step_job t Idle Enter = Idle
step_job t Idle Tick = Idle
step_job t Idle Early = Idle
step_job t (Ready k) Release = Ready k
step_job t (Ready k) Enter = Inside k (region_at t k)
step_job t (Ready k) Tick = Ready k
step_job t (Ready k) Early = Ready k
step_job t (Inside k left) Release = Inside k left
step_job t (Inside k left) Enter = Inside k left
step_job t (Inside k left) Tick = cond (nat_le left 1) (after_region t k) (Inside k (left - 1))
step_job t (Inside k left) Early = after_region t k

abbrev pub is_idle : Job → Bool
is_idle Idle = true
is_idle (Ready k) = false
is_idle (Inside k left) = false

abbrev pub is_ready : Job → Bool
is_ready Idle = false
is_ready (Ready k) = true
is_ready (Inside k left) = false

abbrev pub is_inside : Job → Bool
is_inside Idle = false
is_inside (Ready k) = false
is_inside (Inside k left) = true

-- a record with another job
abbrev pub with_job : Slot → Job → Slot
with_job s j = record { task = s.task; job = j; due = s.due; last = s.last }

-- a record after an event
abbrev pub after_event : Event → Slot → Slot
after_event event s = with_job s (step_job s.task s.job event)

-- the task runs on the core
abbrev pub runs_on : ℕ → Slot → Bool
runs_on c s = s.task.core == c

-- a period has passed since the task's last accepted release, if it had one
abbrev pub period_passed : ℕ → Assigned → Option ℕ → Bool
period_passed now t None = true
period_passed now t (Some l) = nat_le (l + t.period) now

-- a record after a release at the clock `now`
abbrev pub released : ℕ → Slot → Slot
released now s = record { task = s.task; job = step_job s.task s.job Release; due = now + s.task.deadline; last = Some now }

-- a record after an early on the core
abbrev pub ended_on : ℕ → Slot → Slot
ended_on c s = with_job s (cond (runs_on c s) (step_job s.task s.job Early) s.job)

-- the job is inside a region, on the core
abbrev pub inside_on : ℕ → Slot → Bool
inside_on c s = runs_on c s && is_inside s.job

-- a region is under way on the core
abbrev pub busy : ℕ → List Slot → Bool
busy c ss = list_any (inside_on c) ss

-- the job is ready, on the core
abbrev pub ready_on : ℕ → Slot → Bool
ready_on c s = runs_on c s && is_ready s.job

-- the earlier of two deadlines, of which the first counts only where the test is passed
abbrev pub earlier : Bool → ℕ → Option ℕ → Option ℕ
earlier false due o = o
earlier true due None = Some due
earlier true due (Some e) = Some (min due e)

-- the earliest deadline of the ready jobs of a core
abbrev pub earliest_due : ℕ → List Slot → Option ℕ
earliest_due c [] = None
earliest_due c (s ∷ ss) = earlier (ready_on c s) s.due (earliest_due c ss)

-- the ready job of the core with the deadline m enters its region; of several, that of the lowest place
abbrev pub enter_due : ℕ → ℕ → List Slot → List Slot
enter_due c m [] = []
enter_due c m (s ∷ ss) = cond (ready_on c s && s.due == m) (after_event Enter s ∷ ss) (s ∷ enter_due c m ss)

-- the same at the earliest deadline, where there is one
abbrev pub enter_earliest : ℕ → Option ℕ → List Slot → List Slot
enter_earliest c None ss = ss
enter_earliest c (Some m) ss = enter_due c m ss

-- earliest deadline first: unless a region is under way on the core, its ready job with the earliest deadline enters
abbrev pub enter_on : ℕ → List Slot → List Slot
enter_on c ss = cond (busy c ss) ss (enter_earliest c (earliest_due c ss) ss)

-- the same on the cores 1 to n
abbrev pub enter_all : ℕ → List Slot → List Slot
enter_all zero ss = ss
enter_all (suc n) ss = enter_on (suc n) (enter_all n ss)

-- each region under way loses a tick
abbrev pub tick_all : List Slot → List Slot
tick_all ss = map (after_event Tick) ss

-- the place whose region is under way on the core, where the first record has place p; 0 if there is none
abbrev pub place_on : ℕ → ℕ → List Slot → ℕ
place_on c p [] = 0
place_on c p (s ∷ ss) = cond (inside_on c s) p (place_on c (suc p) ss)

-- the row of a tick: the places that run on the cores 1 to n
abbrev pub row_of : ℕ → List Slot → List ℕ
row_of n ss = map (λ c. place_on c 1 ss) (range_with_len 1 n)

-- f at index i, and nothing where there is no such index
abbrev pub change_at : ℕ → (Slot → Slot) → List Slot → List Slot
change_at i f [] = []
change_at zero f (s ∷ ss) = f s ∷ ss
change_at (suc i) f (s ∷ ss) = s ∷ change_at i f ss

-- the record of a task that was never released
abbrev pub unreleased : Assigned → Slot
unreleased t = record { task = t; job = Idle; due = 0; last = None }

-- Which assigned tasks the machine can run in time.
use Rattle.std.specs.Prelude.{◌≡◌, ℕ, ◌+◌, ◌<◌, ◌≤◌, List, [], ◌∷◌, ◌++◌, map, length, filter, nat_eq}
use Rattle.std.specs.List.{AllByRecursion}
use Rattle.bounded.specs.Lists.{list_of}
use Rattle.tasks.specs.Cuts.{total}
use Rattle.coretests.specs.declared.entry.Entry.{Entry}
use Rattle.coretests.specs.Edf.{demand}
use Rattle.machine.specs.declared.types.Assigned.{Assigned}

-- what a core test sees of an assigned task: its load is the length of all its regions
abbrev pub entry_of : Assigned → Entry
entry_of t = record { period = t.period; deadline = t.deadline; load = total (list_of t.regions) }

abbrev pub entries_of : List Assigned → List Entry
entries_of ts = map entry_of ts

-- the tasks of a core, in order of place
abbrev pub tasks_on : ℕ → List Assigned → List Assigned
tasks_on c ts = filter (λ t. nat_eq t.core c) ts

-- the deadline of the first task
abbrev pub first_deadline : List Assigned → ℕ
first_deadline [] = 0
first_deadline (t ∷ ts) = t.deadline

-- no deadline is earlier than one before it
abbrev pub Ordered : List Assigned → Type 0
Ordered [] = Unit {0}
Ordered (t ∷ ts) = AllByRecursion (λ u. t.deadline ≤ u.deadline) ts × Ordered ts

-- a task by itself: it is on a core of the cabinet, its deadline is from 1 to its period, and it has regions, none of them empty
pub record SoundTask (cores : ℕ) (t : Assigned) : Type 0 where
  pub low : 1 ≤ t.core
  pub high : t.core ≤ cores
  pub some_time : 1 ≤ t.deadline
  pub in_period : t.deadline ≤ t.period
  pub some_region : 0 < length (list_of t.regions)
  pub none_empty : AllByRecursion (λ n. 1 ≤ n) (list_of t.regions)

-- A region of a task with the deadline d fits beside the demand of the tasks before it, at every t from `first` to before d.
-- Here t + 1 is enough, though a core test asks for t: when a more urgent job comes to wait, the region under way has run for a tick.
abbrev pub RegionFits : ℕ → List Assigned → ℕ → ℕ → Type 0
RegionFits first before d region = (t : ℕ) → first ≤ t → t < d → region + demand (entries_of before) t ≤ t + 1

-- Each task is sound; and on each core the tasks are in order of deadline, their demand is at most t at every t from 1 on,
-- and each region fits, from the deadline of the core's first task on.
pub record Schedulable (cores : ℕ) (tasks : List Assigned) : Type 0 where
  pub sound : AllByRecursion (SoundTask cores) tasks
  pub ordered : (c : ℕ) → Ordered (tasks_on c tasks)
  pub demand_fits : (c t : ℕ) → 1 ≤ t → demand (entries_of (tasks_on c tasks)) t ≤ t
  pub region_fits : (c : ℕ) (before : List Assigned) (i : Assigned) (after : List Assigned) → tasks_on c tasks ≡ before ++ i ∷ after
      → AllByRecursion (RegionFits (first_deadline (tasks_on c tasks)) before i.deadline) (list_of i.regions)

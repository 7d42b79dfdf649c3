-- The outside reading: the jobs of a place as an onlooker reads them off the calls, the replies and the rows,
-- who knows the plan and the start clock and does not look at the records.
use Rattle.std.specs.Prelude.{ℕ, suc, ◌+◌, ◌-◌, ◌<◌, min, Bool, false, cond, ◌&&◌, ◌||◌, List, [], ◌∷◌, ◌++◌, length, ◌==◌, nat_le, nat_lt, slice_index}
use Rattle.bounded.specs.Lists.{list_of}
use Rattle.machine.specs.declared.types.Assigned.{Assigned}
use Rattle.machine.specs.declared.types.Call.{Call}
use Rattle.machine.specs.declared.types.Call.TheVariants.{Release, Early, Tick}
use Rattle.machine.specs.Slots.{region_at}
use Rattle.machine.specs.Machine.{Reply, refused, granted, ran, clock_end}

-- An unfinished job: the region that it has come to, counted from 0, in how many rows its place has stood
-- since its release or since the region before finished, and its deadline.
pub record Unfinished : Type 0 where
  pub region : ℕ
  pub stood : ℕ
  pub due : ℕ

abbrev pub unfinished : ℕ → ℕ → ℕ → Unfinished
unfinished region stood due = record { region = region; stood = stood; due = due }

-- what the onlooker knows of one place: the clock, the row of the last granted tick, and the unfinished jobs of the place
pub record Watch : Type 0 where
  pub clock : ℕ
  pub row : List ℕ
  pub view : List Unfinished

-- what becomes of each job, one after another
abbrev pub each_job : (Unfinished → List Unfinished) → List Unfinished → List Unfinished
each_job f [] = []
each_job f (u ∷ us) = f u ++ each_job f us

-- the job's region finishes; with the last region the job is no longer unfinished
abbrev pub finished : Assigned → Unfinished → List Unfinished
finished t u = cond (nat_lt (suc u.region) (length (list_of t.regions))) (unfinished (suc u.region) 0 u.due ∷ []) []

-- the job's place stands in one more row: its region finishes once these are as many as the region has ticks
abbrev pub stood_once : Assigned → Unfinished → List Unfinished
stood_once t u = cond (nat_le (region_at t u.region) (suc u.stood)) (finished t u) (unfinished u.region (suc u.stood) u.due ∷ [])

-- the place stands in the row
abbrev pub in_row : ℕ → List ℕ → Bool
in_row p [] = false
in_row p (q ∷ qs) = q == p || in_row p qs

-- What a call and its reply tell of the place p with the task t.
-- A refusal tells nothing. A granted release of the place begins a job. A granted early on the task's core finishes a region
-- if the place stood there in the last row. A granted tick tells the new row.
abbrev pub seen : Assigned → ℕ → Watch → Call → Reply → Watch
seen t p w call (refused refusal) = w
seen t p w (Release place) granted = record { clock = w.clock; row = w.row; view = cond (place == p) (w.view ++ unfinished 0 0 (w.clock + t.deadline) ∷ []) w.view }
seen t p w (Early core) granted = record { clock = w.clock; row = w.row; view = cond (t.core == core && slice_index w.row (core - 1) == p) (each_job (finished t) w.view) w.view }
seen t p w (Tick width) granted = w
seen t p w (Release place) (ran row) = w
seen t p w (Early core) (ran row) = w
seen t p w (Tick width) (ran row) = record { clock = suc w.clock; row = row; view = cond (in_row p row) (each_job (stood_once t) w.view) w.view }

-- what a list of calls and their replies tell
abbrev pub watch : Assigned → ℕ → Watch → List Call → List Reply → Watch
watch t p w [] replies = w
watch t p w (c ∷ cs) [] = w
watch t p w (c ∷ cs) (r ∷ rs) = watch t p (seen t p w c r) cs rs

-- what is known before the first call
abbrev pub opening : ℕ → Watch
opening clock = record { clock = min clock clock_end; row = []; view = [] }

-- the clock is below the deadline of each unfinished job
abbrev pub Timely : ℕ → List Unfinished → Type 0
Timely now [] = Unit {0}
Timely now (u ∷ us) = (now < u.due) × Timely now us

-- The machine: what each call answers, and what the state is after it.
use Rattle.std.specs.Prelude.{ℕ, zero, suc, min, not, List, [], ◌∷◌, map, Some, None, Option, Ok, Err, Result, ◌==◌, nat_le}
use Rattle.std.specs.List.{slice_get}
use Rattle.bounded.specs.Lists.{list_of}
use Rattle.tasks.specs.Tasks.{between}
use Rattle.tasks.specs.Refusals.{first_of}
use Rattle.tasks.specs.declared.refusal.Refusal.{Refusal}
use Rattle.tasks.specs.declared.refusal.Refusal.TheVariants.{NoSuchPlace, EarlyRelease, UnfinishedJob, NoSuchCore, NothingUnderWay, ClockEnded, WrongRowLength}
use Rattle.machine.specs.declared.types.Assigned.{Assigned}
use Rattle.machine.specs.declared.types.Slot.{Slot}
use Rattle.machine.specs.declared.types.Call.{Call}
use Rattle.machine.specs.declared.types.Call.TheVariants.{Release, Early, Tick}
use Rattle.machine.specs.declared.types.Grant.{Grant}
use Rattle.machine.specs.declared.types.Grant.TheVariants.{Done, Row}
use Rattle.machine.specs.Slots.{is_idle, period_passed, released, ended_on, busy, enter_all, tick_all, row_of, change_at, unreleased}

-- the cores, the clock, and the job record of each place
pub record State : Type 0 where
  pub cores : ℕ
  pub clock : ℕ
  pub slots : List Slot

-- what a call is answered: a refusal, that it is granted, or, for a tick, the places that ran, one for each core
pub data Reply : Type 0 where
  refused : (refusal : Refusal) → Reply
  granted : Reply
  ran : (row : List ℕ) → Reply

-- what the code answers
abbrev pub Answer : Type 0
Answer = Result Grant Refusal

-- the same, as a reply of the machine
abbrev pub reply_of : Answer → Reply
reply_of (Ok Done) = granted
reply_of (Ok (Row row)) = ran (list_of row)
reply_of (Err refusal) = refused refusal

-- the end of the clock
abbrev pub clock_end : ℕ
clock_end = 1000000000000

-- the record of a place, if there is such a place
abbrev pub slot_at : ℕ → List Slot → Option Slot
slot_at zero ss = None
slot_at (suc i) ss = slice_get ss i

-- f at a place
abbrev pub change_place : ℕ → (Slot → Slot) → List Slot → List Slot
change_place zero f ss = ss
change_place (suc i) f ss = change_at i f ss

-- why a release of the place is refused, if it is, where the place has this record
abbrev pub release_refusal : ℕ → ℕ → Option Slot → Option Refusal
release_refusal now place None = Some (NoSuchPlace place)
release_refusal now place (Some s) = first_of ((not (period_passed now s.task s.last), EarlyRelease place) ∷ (not (is_idle s.job), UnfinishedJob place) ∷ [])

-- why an early is refused, if it is
abbrev pub early_refusal : State → ℕ → Option Refusal
early_refusal st core = first_of ((not (between 1 st.cores core), NoSuchCore core) ∷ (not (busy core st.slots), NothingUnderWay core) ∷ [])

-- why a tick with a row of this length is refused, if it is
abbrev pub tick_refusal : State → ℕ → Option Refusal
tick_refusal st width = first_of ((nat_le clock_end st.clock, ClockEnded) ∷ (not (width == st.cores), WrongRowLength) ∷ [])

-- the state after a granted release, early and tick
abbrev pub released_state : State → ℕ → State
released_state st place = record { cores = st.cores; clock = st.clock; slots = change_place place (released st.clock) st.slots }

abbrev pub ended_state : State → ℕ → State
ended_state st core = record { cores = st.cores; clock = st.clock; slots = map (ended_on core) st.slots }

abbrev pub ticked_state : State → State
ticked_state st = record { cores = st.cores; clock = suc st.clock; slots = tick_all (enter_all st.cores st.slots) }

-- the row of a granted tick: who is inside a region once each core has had its choice
abbrev pub tick_row : State → List ℕ
tick_row st = row_of st.cores (enter_all st.cores st.slots)

-- what a call comes to: a refusal leaves the state as it is
abbrev pub settle : State → Option Refusal → State → Reply → State × Reply
settle st None new reply = (new, reply)
settle st (Some refusal) new reply = (st, refused refusal)

-- one call: the state after it, and its reply
abbrev pub step : State → Call → State × Reply
step st (Release place) = settle st (release_refusal st.clock place (slot_at place st.slots)) (released_state st place) granted
step st (Early core) = settle st (early_refusal st core) (ended_state st core) granted
step st (Tick width) = settle st (tick_refusal st width) (ticked_state st) (ran (tick_row st))

-- the state after a list of calls
abbrev pub finally : State → List Call → State
finally st [] = st
finally st (c ∷ cs) = finally (step st c).0 cs

-- the replies to a list of calls
abbrev pub answers : State → List Call → List Reply
answers st [] = []
answers st (c ∷ cs) = (step st c).1 ∷ answers (step st c).0 cs

-- the state at the start: nothing was released, and a clock beyond the end is taken as the end
abbrev pub start : ℕ → ℕ → List Assigned → State
start cores clock tasks = record { cores = cores; clock = min clock clock_end; slots = map unreleased tasks }

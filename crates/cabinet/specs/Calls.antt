-- What the calls of a cabinet do: each brings the state where the machine's step brings it, and answers what the machine replies.
use Rattle.std.specs.Prelude.{◌≡◌, ℕ, min, List, ◌++◌, map, length, take, drop, Ok, Err, Result}
use Rattle.bounded.specs.Lists.{list_of}
use Rattle.bounded.specs.declared.list.Bounded.{Bounded}
use Rattle.tasks.specs.declared.refusal.Refusal.{Refusal}
use Rattle.machine.specs.declared.types.Assigned.{Assigned}
use Rattle.machine.specs.declared.types.Call.{Call}
use Rattle.machine.specs.declared.types.Call.TheVariants.{Release, Early, Tick}
use Rattle.machine.specs.Machine.{Answer, State, Reply, refused, granted, ran, reply_of, step, finally, answers, start}
use Rattle.machine.specs.Law.{NeverLate}

-- what a release or an early answers, as a reply of the machine
abbrev pub grant_of : Result (Unit {0}) Refusal → Reply
grant_of (Ok u) = granted
grant_of (Err refusal) = refused refusal

-- a release of the place
abbrev pub Releases : State → ℕ → Result (Unit {0}) Refusal → State → Type 0
Releases st place r next = step st (Release place) ≡ (next, grant_of r)

-- an early on the core
abbrev pub Ends : State → ℕ → Result (Unit {0}) Refusal → State → Type 0
Ends st core r next = step st (Early core) ≡ (next, grant_of r)

-- a tick: a granted one leaves the machine's row in place of the caller's, a refused one leaves the caller's as it was
abbrev pub Ticks : State → List ℕ → Result (Unit {0}) Refusal → State → List ℕ → Type 0
Ticks st row (Ok u) next new = step st (Tick (length row)) ≡ (next, ran new)
Ticks st row (Err refusal) next new = (step st (Tick (length row)) ≡ (next, refused refusal)) × (new ≡ row)

-- a tick for a row of this length, which hands its own row over
abbrev pub ran_of : Result (Bounded ℕ 8) Refusal → Reply
ran_of (Ok row) = ran (list_of row)
ran_of (Err refusal) = refused refusal

abbrev pub TicksBy : State → ℕ → Result (Bounded ℕ 8) Refusal → State → Type 0
TicksBy st width r next = step st (Tick width) ≡ (next, ran_of r)

-- any one call
abbrev pub Answers : State → Call → Answer → State → Type 0
Answers st call answer next = step st call ≡ (next, reply_of answer)

-- The law of a run from the state st: whatever tasks, start and calls brought the cabinet there,
-- before the run and after each of its calls no unfinished job is at its deadline.
abbrev pub Kept : State → List Call → List Reply → Type 0
Kept st calls replies =
    (cores clock : ℕ) (tasks : List Assigned) (past : List Call) → st ≡ finally (start cores clock tasks) past
    → (k : ℕ) → NeverLate clock tasks (past ++ take k calls) (answers (start cores clock tasks) past ++ take k replies)

-- a run of the first n calls, as many as there are places in the log: their replies stand at its front, and the rest of it is as it was
pub record Runs (st : State) (calls : List Call) (log : List Answer) (n : ℕ) (next : State) (new : List Answer) : Type 0 where
  pub count : n ≡ min (length calls) (length log)
  pub state : next ≡ finally st (take n calls)
  pub replies : map reply_of (take n new) ≡ answers st (take n calls)
  pub rest : drop n new ≡ drop n log
  pub law : Kept st (take n calls) (map reply_of (take n new))

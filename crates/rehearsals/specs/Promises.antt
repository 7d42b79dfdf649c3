-- The three promises - cheapest, accepted, never late - over one rehearsal: a table is planned under a core test and under a pile over EDF;
-- the pile's plan is cleared and loaded at a start clock, and calls are run on it, with their answers and rows in a log.
use Rattle.std.specs.Prelude.{◌≡◌, ℕ, ◌≤◌, min, List, map, length, take, drop, Ok, Err, Option, Result}
use Rattle.tasks.specs.declared.refusal.Refusal.{Refusal}
use Rattle.tasks.specs.Tasks.{Table}
use Rattle.coretests.specs.declared.entry.Entry.{Entry}
use Rattle.coretests.specs.Edf.{EdfAccepts, edf_limit}
use Rattle.plans.specs.declared.types.Row.{Row}
use Rattle.plans.specs.Plans.{Lawful}
use Rattle.planning.specs.declared.types.Planned.{Planned}
use Rattle.planning.specs.Planning.{rows_of, Plans}
use Rattle.machine.specs.declared.types.Assigned.{Assigned}
use Rattle.machine.specs.declared.types.Call.{Call}
use Rattle.machine.specs.Machine.{Answer, reply_of, answers, start}
use Rattle.machine.specs.Law.{NeverLate}
use Rattle.machine.specs.Assigning.{AssignedAll}
use Rattle.rehearsals.specs.declared.types.Rehearsal.{Rehearsal}

-- The plan with these rows runs from the start clock: the first n calls, as many as there are places in the log, are answered as the machine
-- replies to them, refusals and rows included, and the rest of the log is as it was. At the start and after each call no unfinished job,
-- as an onlooker reads the jobs off the calls and their replies, is at its deadline.
pub record RunsInTime (table : Table) (rows : List Row) (clock : ℕ) (calls : List Call) (log : List Answer) (n : ℕ) (new : List Answer) : Type 0 where
  pub tasks : List Assigned
  pub assigned : AssignedAll table.tasks rows tasks
  pub count : n ≡ min (length calls) (length log)
  pub replies : map reply_of (take n new) ≡ answers (start table.cores clock tasks) (take n calls)
  pub rest : drop n new ≡ drop n log
  pub never_late : (k : ℕ) → k ≤ n → NeverLate clock tasks (take k calls) (take k (map reply_of (take n new)))

-- a plan that was made is lawful under EDF, so clear accepts it
abbrev pub Accepted : Table → Result Planned Refusal → Type 0
Accepted table (Ok p) = Lawful EdfAccepts edf_limit table (rows_of p)
Accepted table (Err y) = Unit {0}

-- a plan that was made runs in time; without one nothing is run, and the log is as it was
abbrev pub InTime : Table → ℕ → List Call → List Answer → Result Planned Refusal → ℕ → List Answer → Type 0
InTime table clock calls log (Ok p) n new = RunsInTime table (rows_of p) clock calls log n new
InTime table clock calls log (Err y) n new = (n ≡ 0) × (new ≡ log)

-- The promises of a rehearsal. Cheapest: the plan under the core test is the choice among its lawful plans, or there is none.
-- Accepted: so is the plan under the pile, and clear accepts it. Never late: in the cabinet loaded with it no job is late, whatever is called.
pub record Promises (accepts : List Entry → Type 0) (limit : List Entry → ℕ → Option ℕ) (pileAccepts : List Entry → Type 0) (pileLimit : List Entry → ℕ → Option ℕ) (table : Table) (clock : ℕ) (calls : List Call) (log : List Answer) (r : Rehearsal) (new : List Answer) : Type 0 where
  pub cheapest : Plans accepts limit table r.planned
  pub accepted : Plans pileAccepts pileLimit table r.piled × Accepted table r.piled
  pub never_late : InTime table clock calls log r.piled r.ran new

-- What a cabinet holds, and what loading makes of a cleared plan.
use Rattle.std.specs.Prelude.{◌≡◌, ℕ, cond, List, Some, None, Option}
use Rattle.clearing.specs.declared.cleared.Cleared.{Cleared}
use Rattle.clearing.specs.Clearing.{table_in, rows_in}
use Rattle.machine.specs.declared.types.Assigned.{Assigned}
use Rattle.machine.specs.declared.types.Call.{Call}
use Rattle.machine.specs.declared.types.Slot.{Slot}
use Rattle.machine.specs.Assigning.{AssignedAll}
use Rattle.machine.specs.Law.{NeverLate}
use Rattle.machine.specs.Machine.{State, answers, start}
use Rattle.machine.specs.Slots.{is_idle}
use Rattle.cabinet.specs.declared.cabinet.Cabinet.{Cabinet}
use Rattle.cabinet.specs.States.{state_of}

-- the state of a cabinet
abbrev pub state : Cabinet → State
state c = state_of c.plain

-- The state at the start with the tasks as the rows of the plan assign them; and these tasks are never late,
-- whatever is called from here on.
pub record Loaded (plan : Cleared) (clock : ℕ) (st : State) : Type 0 where
  pub tasks : List Assigned
  pub assigned : AssignedAll (table_in plan).tasks (rows_in plan) tasks
  pub starts : st ≡ start (table_in plan).cores clock tasks
  pub in_time : (calls : List Call) → NeverLate clock tasks calls (answers st calls)

-- the deadline of the job of a record, unless it is idle
abbrev pub due_of : Option Slot → Option ℕ
due_of None = None
due_of (Some s) = cond (is_idle s.job) None (Some s.due)

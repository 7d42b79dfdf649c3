-- The states that a cabinet can come to.
use Rattle.std.specs.Prelude.{◌≡◌, ℕ, List}
use Rattle.machine.specs.declared.types.Assigned.{Assigned}
use Rattle.machine.specs.declared.types.Call.{Call}
use Rattle.machine.specs.Machine.{State, finally, start}
use Rattle.machine.specs.Schedulable.{Schedulable}

-- the machine, started with schedulable tasks, has come to the state by some calls
pub record Reached (st : State) : Type 0 where
  pub cores : ℕ
  pub clock : ℕ
  pub tasks : List Assigned
  pub schedulable : Schedulable cores tasks
  pub past : List Call
  pub comes : st ≡ finally (start cores clock tasks) past

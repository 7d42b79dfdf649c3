-- The outside reading and the records say the same of each place.
use Rattle.std.specs.Prelude.{◌≡◌, ℕ, ◌-◌, List, [], ◌∷◌}
use Rattle.machine.specs.declared.types.Assigned.{Assigned}
use Rattle.machine.specs.declared.types.Job.{Job}
use Rattle.machine.specs.declared.types.Job.TheVariants.{Idle, Ready, Inside}
use Rattle.machine.specs.declared.types.Call.{Call}
use Rattle.machine.specs.Slots.{region_at}
use Rattle.machine.specs.Schedulable.{Schedulable}
use Rattle.machine.specs.Machine.{answers, finally, start}
use Rattle.machine.specs.Watch.{Unfinished, unfinished, watch, opening}
use Rattle.machine.specs.Law.{Places}

-- a job record and the unfinished jobs that are read: none of an idle record, and else one,
-- whose place has stood in as many rows as its region has lost ticks
abbrev pub Agree : Assigned → Job → ℕ → List Unfinished → Type 0
Agree t Idle due view = view ≡ []
Agree t (Ready k) due view = view ≡ unfinished k 0 due ∷ []
Agree t (Inside k left) due view = view ≡ unfinished k (region_at t k - left) due ∷ []

-- after any list of calls, the reading of each place agrees with its record
abbrev pub ReadingAgrees : Type 0
ReadingAgrees =
    (cores clock : ℕ) (tasks : List Assigned) → Schedulable cores tasks → (calls : List Call)
    → Places (λ p s. Agree s.task s.job s.due (watch s.task p (opening clock) calls (answers (start cores clock tasks) calls)).view) 1 (finally (start cores clock tasks) calls).slots

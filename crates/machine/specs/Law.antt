-- The law of the machine: no unfinished job reaches its deadline.
use Rattle.std.specs.Prelude.{◌≡◌, ℕ, suc, List, [], ◌∷◌}
use Rattle.machine.specs.declared.types.Assigned.{Assigned}
use Rattle.machine.specs.declared.types.Call.{Call}
use Rattle.machine.specs.Schedulable.{Schedulable}
use Rattle.machine.specs.Machine.{Reply, answers, finally, start}
use Rattle.machine.specs.Watch.{Watch, watch, opening, Timely}

-- it holds at each place of a list, where the first place is p
abbrev pub Places : {X : Type 0} → (ℕ → X → Type 0) → ℕ → List X → Type 0
Places P p [] = Unit {0}
Places P p (x ∷ xs) = P p x × Places P (suc p) xs

-- no unfinished job of the place is at its deadline
abbrev pub OnTime : Watch → Type 0
OnTime w = Timely w.clock w.view

-- no unfinished job of any place is at its deadline, as read off the calls and the replies from the start clock on
abbrev pub NeverLate : ℕ → List Assigned → List Call → List Reply → Type 0
NeverLate clock tasks calls replies = Places (λ p t. OnTime (watch t p (opening clock) calls replies)) 1 tasks

-- From any start clock, schedulable tasks are never late, whatever is called.
-- The calls are any list, so this holds at the start and after each call of a longer list.
abbrev pub MachineNeverLate : Type 0
MachineNeverLate = (cores clock : ℕ) (tasks : List Assigned) → Schedulable cores tasks → (calls : List Call) → NeverLate clock tasks calls (answers (start cores clock tasks) calls)

-- the onlooker's clock is the machine's
abbrev pub SameClock : Type 0
SameClock = (cores clock : ℕ) (tasks : List Assigned) → Schedulable cores tasks → (calls : List Call) (p : ℕ) (t : Assigned) → (watch t p (opening clock) calls (answers (start cores clock tasks) calls)).clock ≡ (finally (start cores clock tasks) calls).clock

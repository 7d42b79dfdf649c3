-- What the steps of the examination of a plan answer.
use Rattle.std.specs.Prelude.{ℕ, ◌<◌, ◌≤◌, cond, List, [], length, Some, None, Ok, Err, Option, Result, ◌==◌, ◌≢◌}
use Rattle.tasks.specs.Tasks.{Table}
use Rattle.tasks.specs.declared.refusal.Refusal.{Refusal}
use Rattle.tasks.specs.declared.refusal.Refusal.TheVariants.{WrongRow}
use Rattle.coretests.specs.declared.entry.Entry.{Entry}
use Rattle.plans.specs.declared.types.Row.{Row}
use Rattle.plans.specs.declared.types.Placed.{Placed}
use Rattle.plans.specs.Plans.{on_core, Lawful}
use Rattle.clearing.specs.Refused.{row_refusal, PlanRefused}

-- the answer tells the refusal, if there is one
abbrev pub refusal_in : Result (Unit {0}) Refusal → Option Refusal
refusal_in (Ok u) = None
refusal_in (Err y) = Some y

-- the number of rows, and then row by row their cores and cuts
abbrev pub rows_refusal : Table → List Row → Option Refusal
rows_refusal table rows = cond (length rows == length table.tasks) (row_refusal table.cores 1 table.tasks rows) (Some (WrongRow 0))

-- the core is empty, or its list is accepted
abbrev pub Holds : (List Entry → Type 0) → List Placed → ℕ → Type 0
Holds accepts ps core = (on_core core ps ≢ []) → accepts (on_core core ps)

-- the answer is the first core that does not hold, or all of them hold
abbrev pub FirstNotHeld : (List Entry → Type 0) → ℕ → List Placed → Option ℕ → Type 0
FirstNotHeld accepts cores ps None = (k : ℕ) → 1 ≤ k → k ≤ cores → Holds accepts ps k
FirstNotHeld accepts cores ps (Some core) =
    (1 ≤ core) × (core ≤ cores) × (Holds accepts ps core → ⊥) × ((k : ℕ) → 1 ≤ k → k < core → Holds accepts ps k)

-- the plan is lawful under the test, or this is its refusal
abbrev pub Examined : (List Entry → Type 0) → (List Entry → ℕ → Option ℕ) → Table → List Row → Result (Unit {0}) Refusal → Type 0
Examined accepts limit table rows (Ok u) = Lawful accepts limit table rows
Examined accepts limit table rows (Err y) = (Lawful accepts limit table rows → ⊥) × PlanRefused accepts limit table rows y

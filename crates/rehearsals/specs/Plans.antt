-- What planning and clearing together do.
use Rattle.std.specs.Prelude.{◌≡◌, ℕ, List, Ok, Err, Option, Result}
use Rattle.tasks.specs.declared.refusal.Refusal.{Refusal}
use Rattle.tasks.specs.declared.refusal.Refusal.TheVariants.{NoLawfulPlan}
use Rattle.tasks.specs.Tasks.{Table}
use Rattle.coretests.specs.declared.entry.Entry.{Entry}
use Rattle.plans.specs.declared.types.Row.{Row}
use Rattle.plans.specs.Plans.{Lawful, Choice}
use Rattle.clearing.specs.declared.cleared.Cleared.{Cleared}
use Rattle.clearing.specs.Clearing.{table_in, rows_in}

-- The cleared plan then holds the table with the plan chosen under the test: clearing refuses no plan that planning makes.
-- Or no plan is lawful under the test, and the cleared plan is as it was.
abbrev pub PlansAndClears : (List Entry → Type 0) → (List Entry → ℕ → Option ℕ) → Table → Cleared → Result (Unit {0}) Refusal → Cleared → Type 0
PlansAndClears accepts limit table c (Ok u) e = (table_in e ≡ table) × Choice accepts limit table (rows_in e)
PlansAndClears accepts limit table c (Err y) e = ((rows : List Row) → Lawful accepts limit table rows → ⊥) × (y ≡ NoLawfulPlan) × (e ≡ c)

-- What plan answers.
use Rattle.std.specs.Prelude.{◌≡◌, ℕ, List, Ok, Err, Option, Result}
use Rattle.bounded.specs.Lists.{list_of}
use Rattle.tasks.specs.Tasks.{Table}
use Rattle.tasks.specs.declared.refusal.Refusal.{Refusal}
use Rattle.tasks.specs.declared.refusal.Refusal.TheVariants.{NoLawfulPlan}
use Rattle.coretests.specs.declared.entry.Entry.{Entry}
use Rattle.plans.specs.declared.types.Row.{Row}
use Rattle.plans.specs.Plans.{Lawful, Choice, cost}
use Rattle.planning.specs.declared.types.Planned.{Planned}

abbrev pub rows_of : Planned → List Row
rows_of p = list_of p.rows

-- the chosen plan with its cost; or the refusal, where no plan of the table is lawful under the test
abbrev pub Plans : (List Entry → Type 0) → (List Entry → ℕ → Option ℕ) → Table → Result Planned Refusal → Type 0
Plans accepts limit table (Ok p) = Choice accepts limit table (rows_of p) × (p.cost ≡ cost table (rows_of p))
Plans accepts limit table (Err y) = ((rows : List Row) → Lawful accepts limit table rows → ⊥) × (y ≡ NoLawfulPlan)

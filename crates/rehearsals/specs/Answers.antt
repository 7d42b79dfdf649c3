-- What a program prints for a sheet.
use Rattle.std.specs.Prelude.{◌≡◌, ℕ, ◌⊎◌, List, [], Ok, Err, Result}
use Rattle.tasks.specs.declared.refusal.Refusal.{Refusal}
use Rattle.tasks.specs.declared.refusal.Refusal.TheVariants.{NoLawfulPlan}
use Rattle.tasks.specs.Tasks.{Table}
use Rattle.coretests.specs.Edf.{EdfAccepts, edf_limit}
use Rattle.plans.specs.declared.types.Row.{Row}
use Rattle.plans.specs.Plans.{Lawful, Choice}
use Rattle.clearing.specs.declared.cleared.Cleared.{Cleared}
use Rattle.clearing.specs.Clearing.{table_in, rows_in}
use Rattle.sheet.specs.Sheets.{Granted, SheetRefused}
use Rattle.writer.specs.Lines.{refusal_line}
use Rattle.plan_writer.specs.Lines.{plan_text}
use Rattle.writer.specs.Texts.{WritesOnly}

-- why a sheet has no plan: it is refused, or no plan of the table that it describes is lawful under EDF
abbrev pub Unplanned : List ℕ → Refusal → Type 0
Unplanned bs y = SheetRefused bs y ⊎ ((table : Table) × Granted bs table [] × ((rows : List Row) → Lawful EdfAccepts edf_limit table rows → ⊥) × (y ≡ NoLawfulPlan))

-- The cleared plan holds the table that the sheet describes, with the plan chosen for it under EDF; or the sheet has no plan, and the cleared plan is as it was.
abbrev pub PlansSheet : List ℕ → Cleared → Result (Unit {0}) Refusal → Cleared → Type 0
PlansSheet bs c (Ok u) e = Granted bs (table_in e) [] × Choice EdfAccepts edf_limit (table_in e) (rows_in e)
PlansSheet bs c (Err y) e = Unplanned bs y × (e ≡ c)

-- the text tells the plan that is chosen under EDF for the table that the sheet describes, or why there is none
abbrev pub TextFor : List ℕ → List ℕ → Type 0
TextFor bs text =
    ((table : Table) × (rows : List Row) × Granted bs table [] × Choice EdfAccepts edf_limit table rows × (text ≡ plan_text table rows))
    ⊎ ((y : Refusal) × Unplanned bs y × (text ≡ refusal_line y))

-- the text that tells of the sheet is written: there is no other
abbrev pub Answers : List ℕ → List ℕ → Result ℕ Refusal → List ℕ → Type 0
Answers bs = WritesOnly (TextFor bs)

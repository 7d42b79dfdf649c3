-- What a cleared plan holds, and what clearing does.
use Rattle.std.specs.Prelude.{◌≡◌, List, Ok, Err, Result}
use Rattle.bounded.specs.Lists.{list_of}
use Rattle.tasks.specs.Tasks.{Table}
use Rattle.tasks.specs.Tables.{sealed}
use Rattle.tasks.specs.declared.refusal.Refusal.{Refusal}
use Rattle.coretests.specs.Edf.{EdfAccepts, edf_limit}
use Rattle.plans.specs.declared.types.Row.{Row}
use Rattle.plans.specs.Plans.{Lawful}
use Rattle.clearing.specs.declared.cleared.Cleared.{Cleared}
use Rattle.clearing.specs.Refused.{PlanRefused}

-- the table of a cleared plan
abbrev pub table_in : Cleared → Table
table_in c = sealed c.table

-- its rows, one for each task
abbrev pub rows_in : Cleared → List Row
rows_in c = list_of c.rows

-- a plan that is lawful under EDF is accepted, and the cleared plan then holds a copy of table and rows;
-- any other is refused, and the cleared plan is as it was
abbrev pub Clears : Table → List Row → Cleared → Result (Unit {0}) Refusal → Cleared → Type 0
Clears table rows c (Ok u) e = Lawful EdfAccepts edf_limit table rows × (table_in e ≡ table) × (rows_in e ≡ rows)
Clears table rows c (Err y) e = (Lawful EdfAccepts edf_limit table rows → ⊥) × PlanRefused EdfAccepts edf_limit table rows y × (e ≡ c)

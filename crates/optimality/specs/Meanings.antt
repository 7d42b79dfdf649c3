-- Lawful plans and the choice, in words of the subject.
use Rattle.std.specs.Prelude.{◌≡◌, ℕ, ◌<◌, true, List, [], length, get_or, take, Option, slice_index_or}
use Rattle.tasks.specs.Tasks.{Task, Table, table_rules}
use Rattle.coretests.specs.declared.entry.Entry.{Entry}
use Rattle.coretests.specs.Edf.{EdfAccepts, edf_limit}
use Rattle.cuts.specs.Allowed.{LeastCuts}
use Rattle.plans.specs.declared.types.Row.{Row}
use Rattle.plans.specs.Plans.{places, on_core, Suits, Fits, Lawful, cores, marks, cost, Choice}

-- one row for each task, and at each place, counted from 0 here, the row suits its task behind the tasks of the places before it
pub record FitsByPlace (limit : List Entry → ℕ → Option ℕ) (table : Table) (rows : List Row) : Type 0 where
  pub count : length rows ≡ length table.tasks
  pub suits : (i : ℕ) (t : Task) (r : Row) → i < length table.tasks → Suits limit table (take i (places table table.tasks rows)) (slice_index_or table.tasks i t) (slice_index_or rows i r)

-- the rows fit task after task exactly when they fit place by place
abbrev pub FittingIsByPlace : Type 0
FittingIsByPlace =
    (limit : List Entry → ℕ → Option ℕ) (table : Table) (rows : List Row)
    → (Fits limit table [] table.tasks rows → FitsByPlace limit table rows) × (FitsByPlace limit table rows → Fits limit table [] table.tasks rows)

-- two plans that are both the choice have the same cost, core numbers and cuts
abbrev pub OneChoice : (List Entry → Type 0) → (List Entry → ℕ → Option ℕ) → Type 0
OneChoice accepts limit =
    (table : Table) (rows others : List Row) → Choice accepts limit table rows → Choice accepts limit table others
    → (cost table rows ≡ cost table others) × (cores rows ≡ cores others) × (marks table.tasks rows ≡ marks table.tasks others)

-- at each place, counted from 0 here, the cuts are the chosen ones under the limit that the rows before it leave on its core:
-- so of each task of the chosen plan it holds that its cuts are the cheapest that are allowed there,
-- and of equal ones those whose first region reaches as far as it can, then the second, and so on
abbrev pub ChoiceHasChosenCuts : (List Entry → Type 0) → (List Entry → ℕ → Option ℕ) → Type 0
ChoiceHasChosenCuts accepts limit =
    (table : Table) (rows : List Row) → table_rules table ≡ true → Choice accepts limit table rows
    → (i : ℕ) (t : Task) (r : Row) → i < length table.tasks
    → LeastCuts (limit (on_core (get_or rows i r).core (take i (places table table.tasks rows))) (get_or table.tasks i t).deadline) (slice_index_or table.tasks i t) (get_or rows i r).cuts

-- a plan that is lawful under the test is lawful under EDF
abbrev pub LawfulUnderEdf : (List Entry → Type 0) → (List Entry → ℕ → Option ℕ) → Type 0
LawfulUnderEdf accepts limit = (table : Table) (rows : List Row) → Lawful accepts limit table rows → Lawful EdfAccepts edf_limit table rows

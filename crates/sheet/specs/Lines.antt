-- What one line of a sheet does to a table, and what it is refused for.
-- bs are the bytes from the line's start on, and `at` is the offset of that start in the sheet.
use Rattle.std.specs.Prelude.{◌≡◌, ℕ, ◌⊎◌, List, ◌++◌, Some}
use Rattle.grammar.specs.Forms.{Form, Lawful, line, IsNumber}
use Rattle.reader.specs.Lines.{RefusedLine}
use Rattle.fields.specs.Wanted.{value, sheet_form, Written, task_form, IsTask, values_of}
use Rattle.tasks.specs.declared.refusal.Refusal.{Refusal}
use Rattle.tasks.specs.declared.refusal.Refusal.TheVariants.{WrongFields}
use Rattle.tasks.specs.Tasks.{Table}
use Rattle.tasks.specs.Tables.{new_draft_refusal, add_refusal}

abbrev pub AsSheet : Form → Type 0
AsSheet f = (ds : List ℕ) × (f ≡ sheet_form ds)

abbrev pub AsTask : Form → Type 0
AsTask f = (w : Written) × (f ≡ task_form w)

-- a lawful line stands first, but it is none of the wanted form
pub record Misshapen (Wanted : Form → Type 0) (at : ℕ) (bs : List ℕ) (y : Refusal) : Type 0 where
  pub tree : Form
  pub lawful : Lawful tree 4
  pub left : List ℕ
  pub is : bs ≡ line tree ++ left
  pub other : Wanted tree → ⊥
  pub told : y ≡ WrongFields at

-- the line of a sheet form stands first, and its cores are refused
pub record CoresRefused (at : ℕ) (bs : List ℕ) (y : Refusal) : Type 0 where
  pub digits : List ℕ
  pub lawful : IsNumber digits
  pub left : List ℕ
  pub is : bs ≡ line (sheet_form digits) ++ left
  pub told : new_draft_refusal at (value digits) ≡ Some y

-- the line of a task form stands first, and the table refuses its task
pub record TaskRefused (table : Table) (at : ℕ) (bs : List ℕ) (y : Refusal) : Type 0 where
  pub written : Written
  pub lawful : IsTask written
  pub left : List ℕ
  pub is : bs ≡ line (task_form written) ++ left
  pub told : add_refusal at table (values_of written) ≡ Some y

-- why the first line of a sheet is refused: its grammar, its words and fields, or its cores
abbrev pub FirstRefused : ℕ → List ℕ → Refusal → Type 0
FirstRefused at bs y = RefusedLine at bs y ⊎ (Misshapen AsSheet at bs y ⊎ CoresRefused at bs y)

-- why a later line is refused: its grammar, its words and fields, or its task
abbrev pub LaterRefused : Table → ℕ → List ℕ → Refusal → Type 0
LaterRefused table at bs y = RefusedLine at bs y ⊎ (Misshapen AsTask at bs y ⊎ TaskRefused table at bs y)

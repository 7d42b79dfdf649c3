-- What reading a sheet into a draft tells, in terms of the lines that stand in it.
use Rattle.std.specs.Prelude.{◌≡◌, ℕ, ◌<◌, ◌⊎◌, List, [], ◌∷◌, ◌++◌, length, None, Ok, Err, Result}
use Rattle.std.specs.List.{All}
use Rattle.grammar.specs.Forms.{line, IsNumber}
use Rattle.fields.specs.Wanted.{value, sheet_form, Written, task_form, IsTask, values_of}
use Rattle.tasks.specs.declared.refusal.Refusal.{Refusal}
use Rattle.tasks.specs.declared.table.Draft.{Draft}
use Rattle.tasks.specs.Tasks.{Table, with_task, empty_on}
use Rattle.tasks.specs.Tables.{drafted, new_draft_refusal, add_refusal}
use Rattle.sheet.specs.Lines.{FirstRefused, LaterRefused}

-- the bytes of the task lines, one after another
abbrev pub task_lines : List Written → List ℕ
task_lines [] = []
task_lines (w ∷ ws) = line (task_form w) ++ task_lines ws

-- the bytes of a sheet line and of the task lines after it
abbrev pub sheet_lines : List ℕ → List Written → List ℕ
sheet_lines digits ws = line (sheet_form digits) ++ task_lines ws

-- the tasks are added to the table one after another, none is refused, and the last table is `after`
abbrev pub AllAdded : Table → List Written → Table → Type 0
AllAdded table [] after = after ≡ table
AllAdded table (w ∷ ws) after = (add_refusal 0 table (values_of w) ≡ None) × AllAdded (with_task table (values_of w)) ws after

-- The first lines of the sheet are those of a sheet form and of task forms, all of them granted:
-- they make the table, and `left` are the bytes after them.
pub record Granted (bs : List ℕ) (table : Table) (left : List ℕ) : Type 0 where
  pub digits : List ℕ
  pub number : IsNumber digits
  pub cores : new_draft_refusal 0 (value digits) ≡ None
  pub written : List Written
  pub lawful : All IsTask written
  pub added : AllAdded (empty_on (value digits)) written table
  pub is : bs ≡ sheet_lines digits written ++ left

-- the place of the first byte that is left
abbrev pub place_of : (bs : List ℕ) (table : Table) (left : List ℕ) → Granted bs table left → ℕ
place_of bs table left g = length (sheet_lines g.digits g.written)

-- some lines were granted, and the next one is refused
pub record RefusedAfter (bs : List ℕ) (table : Table) (y : Refusal) : Type 0 where
  pub left : List ℕ
  pub some : 0 < length left
  pub granted : Granted bs table left
  pub refused : LaterRefused table (place_of bs table left granted) left y

-- the refusal is that of the sheet's first line, or of a later line after some that were granted
abbrev pub SheetRefused : List ℕ → Refusal → Type 0
SheetRefused bs y = FirstRefused 0 bs y ⊎ ((table : Table) × RefusedAfter bs table y)

-- Every line is granted, and the draft holds their table; or the first line is refused, and the draft is as it was;
-- or a later line is refused, and the draft holds the table of those before it.
abbrev pub Reads : List ℕ → Draft → Result (Unit {0}) Refusal → Draft → Type 0
Reads bs d (Ok u) e = Granted bs (drafted e) []
Reads bs d (Err y) e = ((e ≡ d) × FirstRefused 0 bs y) ⊎ RefusedAfter bs (drafted e) y

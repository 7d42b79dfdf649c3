-- What reading one line does to the reader and to the draft.
use Rattle.std.specs.Prelude.{◌≡◌, ℕ, List, None, Ok, Err, Result}
use Rattle.grammar.specs.Forms.{line, IsNumber}
use Rattle.reader.specs.declared.reader.Reader.{Reader}
use Rattle.reader.specs.Tokens.{rest, Went}
use Rattle.fields.specs.Wanted.{value, sheet_form, Written, task_form, IsTask, values_of}
use Rattle.tasks.specs.declared.refusal.Refusal.{Refusal}
use Rattle.tasks.specs.declared.table.Draft.{Draft}
use Rattle.tasks.specs.Tasks.{with_task, empty_on}
use Rattle.tasks.specs.Tables.{drafted, new_draft_refusal, add_refusal}
use Rattle.sheet.specs.Lines.{FirstRefused, LaterRefused}

-- the line of a sheet form stands between a and b, and the draft e is empty on its cores
pub record CoresRead (a b : Reader) (e : Draft) : Type 0 where
  pub digits : List ℕ
  pub number : IsNumber digits
  pub went : Went a b (line (sheet_form digits))
  pub granted : new_draft_refusal a.position (value digits) ≡ None
  pub holds : drafted e ≡ empty_on (value digits)

-- the line of a task form stands between a and b, and the draft e is d with its task
pub record TaskRead (a b : Reader) (d e : Draft) : Type 0 where
  pub written : Written
  pub lawful : IsTask written
  pub went : Went a b (line (task_form written))
  pub granted : add_refusal a.position (drafted d) (values_of written) ≡ None
  pub holds : drafted e ≡ with_task (drafted d) (values_of written)

-- the first line is granted, or it is refused and the draft is as it was
abbrev pub FirstSteps : Reader → Draft → Result (Unit {0}) Refusal → Reader → Draft → Type 0
FirstSteps a d (Ok u) b e = CoresRead a b e
FirstSteps a d (Err y) b e = (e ≡ d) × FirstRefused a.position (rest a) y

-- a later line is granted, or it is refused and the draft is as it was
abbrev pub LaterSteps : Reader → Draft → Result (Unit {0}) Refusal → Reader → Draft → Type 0
LaterSteps a d (Ok u) b e = TaskRead a b d e
LaterSteps a d (Err y) b e = (e ≡ d) × LaterRefused (drafted d) a.position (rest a) y

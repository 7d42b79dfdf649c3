-- What the answers of cores_of and task_of say of the bytes of a line.
use Rattle.std.specs.Prelude.{◌≡◌, ℕ, List, take, Some, None, Option, ◌≢◌}
use Rattle.bounded.specs.Lists.{list_of}
use Rattle.bounded.specs.declared.list.Bounded.{Bounded}
use Rattle.tasks.specs.Tasks.{Task}
use Rattle.grammar.specs.Forms.{line, IsNumber}
use Rattle.fields.specs.Wanted.{value, sheet_form, Written, task_form, IsTask, values_of}
use Rattle.fields.specs.declared.values.TaskLine.{TaskLine}

-- k has the first seventeen numbers of the list.
abbrev pub Keeps : Bounded ℕ 17 → List ℕ → Type 0
Keeps k xs = list_of k ≡ take 17 xs

-- The task of a line, of each list what the line keeps.
abbrev pub kept : TaskLine → Task
kept v = record { id = v.id; period = v.period; deadline = v.deadline; blocks = list_of v.blocks; points = list_of v.points }

-- v has the values of a task line, of which it keeps the lists.
pub record Holds (v : TaskLine) (t : Task) : Type 0 where
  pub id : v.id ≡ t.id
  pub period : v.period ≡ t.period
  pub deadline : v.deadline ≡ t.deadline
  pub blocks : Keeps v.blocks t.blocks
  pub points : Keeps v.points t.points

-- v has the values of the written task line.
abbrev pub HasTask : Written → TaskLine → Type 0
HasTask w v = Holds v (values_of w)

-- The bytes are the line of a sheet of lawful digits, of which v is the value; or they are no such line.
abbrev pub CoresOf : List ℕ → Option ℕ → Type 0
CoresOf bs None = (ds : List ℕ) → IsNumber ds → bs ≢ line (sheet_form ds)
CoresOf bs (Some v) = (ds : List ℕ) × IsNumber ds × (v ≡ value ds) × (bs ≡ line (sheet_form ds))

-- The bytes are the line of a task of lawful numbers, of which v has the values; or they are no such line.
abbrev pub TaskOf : List ℕ → Option TaskLine → Type 0
TaskOf bs None = (w : Written) → IsTask w → bs ≢ line (task_form w)
TaskOf bs (Some v) = (w : Written) × IsTask w × HasTask w v × (bs ≡ line (task_form w))

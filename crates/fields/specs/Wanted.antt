-- The forms of the wanted lines, by the digits of their numbers, and the values of those.
use Rattle.std.specs.Prelude.{ℕ, ◌+◌, ◌-◌, ◌*◌, List, [], ◌∷◌, map, codes}
use Rattle.std.specs.List.{All}
use Rattle.tasks.specs.Tasks.{Task}
use Rattle.grammar.specs.Forms.{Form, Item, Items, form, number, nested, none, more, IsNumber}

-- The digits ds, read after digits of the value v.
abbrev pub value_from : ℕ → List ℕ → ℕ
value_from v [] = v
value_from v (d ∷ ds) = value_from (v * 10 + (d - 48)) ds

-- The value of a number in decimal, from its bytes.
abbrev pub value : List ℕ → ℕ
value ds = value_from 0 ds

-- The numbers as items.
abbrev pub numerals : List (List ℕ) → Items
numerals [] = none
numerals (n ∷ ns) = more (number n) (numerals ns)

-- The item (w N*).
abbrev pub field : List ℕ → List (List ℕ) → Item
field w ns = nested (form w (numerals ns))

-- The form (sheet (cores N)).
abbrev pub sheet_form : List ℕ → Form
sheet_form n = form (codes "sheet") (more (field (codes "cores") (n ∷ [])) none)

-- The digits of each number of a task line.
pub record Written : Type 0 where
  pub id : List ℕ
  pub period : List ℕ
  pub deadline : List ℕ
  pub blocks : List (List ℕ)
  pub points : List (List ℕ)

-- The form (task (id N) (period N) (deadline N) (blocks N*) (points N*)).
abbrev pub task_form : Written → Form
task_form w =
    form (codes "task")
    (more (field (codes "id") (w.id ∷ []))
    (more (field (codes "period") (w.period ∷ []))
    (more (field (codes "deadline") (w.deadline ∷ []))
    (more (field (codes "blocks") w.blocks)
    (more (field (codes "points") w.points) none)))))

-- Each of them is a lawful number.
abbrev pub AreNumbers : List (List ℕ) → Type 0
AreNumbers ns = All IsNumber ns

-- Every number of the task line is lawful.
pub record IsTask (w : Written) : Type 0 where
  pub id : IsNumber w.id
  pub period : IsNumber w.period
  pub deadline : IsNumber w.deadline
  pub blocks : AreNumbers w.blocks
  pub points : AreNumbers w.points

-- The task that the written numbers describe.
abbrev pub values_of : Written → Task
values_of w = record { id = value w.id; period = value w.period; deadline = value w.deadline; blocks = map value w.blocks; points = map value w.points }

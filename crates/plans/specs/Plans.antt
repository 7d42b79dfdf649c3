-- Which plans of a table are lawful under a core test, what they cost, and which of them is chosen.
-- A core test is given by the lists that it accepts, and by its limit: the longest region of a next task with an asked deadline.
use Rattle.std.specs.Prelude.{ℕ, ◌+◌, ◌*◌, ◌≤◌, cond, List, [], ◌∷◌, ◌++◌, map, Option, ◌==◌, ◌≢◌}
use Rattle.tasks.specs.Tasks.{Task, Table}
use Rattle.tasks.specs.Cuts.{total, load, overhead}
use Rattle.coretests.specs.declared.entry.Entry.{Entry}
use Rattle.cuts.specs.Orders.{NoLater, mark}
use Rattle.cuts.specs.Allowed.{flags_at, Allowed}
use Rattle.plans.specs.declared.types.Row.{Row}
use Rattle.plans.specs.declared.types.Placed.{Placed}

-- a task as its row places it
abbrev pub place : Table → Task → Row → Placed
place table t r = record { row = r; entry = record { period = t.period; deadline = t.deadline; load = load t r.cuts }; overhead = overhead table t r.cuts }

-- the same, of the row, what its cuts cost and the task's weight
abbrev pub placed_with : Task → Row → ℕ → ℕ → Placed
placed_with t r price weight = record { row = r; entry = record { period = t.period; deadline = t.deadline; load = total t.blocks + price }; overhead = weight * price }

-- tasks as their rows place them, in table order
abbrev pub places : Table → List Task → List Row → List Placed
places table ts [] = []
places table [] (r ∷ rs) = []
places table (t ∷ ts) (r ∷ rs) = place table t r ∷ places table ts rs

-- the rows of placed tasks
abbrev pub rows_placed : List Placed → List Row
rows_placed ps = map (λ p. p.row) ps

-- a core's list: the entries of its tasks, in table order
abbrev pub on_core : ℕ → List Placed → List Entry
on_core c [] = []
on_core c (p ∷ ps) = cond (p.row.core == c) (p.entry ∷ on_core c ps) (on_core c ps)

-- a row suits its task, behind the tasks that are placed before it: it names a core of the cabinet,
-- and its cuts are allowed under the limit that the entries before it on this core leave at its deadline
pub record Suits (limit : List Entry → ℕ → Option ℕ) (table : Table) (before : List Placed) (t : Task) (r : Row) : Type 0 where
  pub low : 1 ≤ r.core
  pub high : r.core ≤ table.cores
  pub allowed : Allowed (limit (on_core r.core before) t.deadline) t r.cuts

-- there is one row for each task, and each suits its task behind those before it
abbrev pub Fits : (List Entry → ℕ → Option ℕ) → Table → List Placed → List Task → List Row → Type 0
Fits limit table before [] [] = Unit {0}
Fits limit table before [] (r ∷ rs) = ⊥
Fits limit table before (t ∷ ts) [] = ⊥
Fits limit table before (t ∷ ts) (r ∷ rs) = Suits limit table before t r × Fits limit table (before ++ place table t r ∷ []) ts rs

-- the list of each core that has a task is accepted; nothing is asked of an empty core
abbrev pub Held : (List Entry → Type 0) → List Placed → Type 0
Held accepts ps = (c : ℕ) → (on_core c ps ≢ []) → accepts (on_core c ps)

-- a plan is lawful under a test
pub record Lawful (accepts : List Entry → Type 0) (limit : List Entry → ℕ → Option ℕ) (table : Table) (rows : List Row) : Type 0 where
  pub fits : Fits limit table [] table.tasks rows
  pub held : Held accepts (places table table.tasks rows)

-- what the rows of these tasks cost: weight × the costs of the cuts, added up
abbrev pub cost_of : Table → List Task → List Row → ℕ
cost_of table ts [] = 0
cost_of table [] (r ∷ rs) = 0
cost_of table (t ∷ ts) (r ∷ rs) = overhead table t r.cuts + cost_of table ts rs

-- the cost of a plan
abbrev pub cost : Table → List Row → ℕ
cost table rows = cost_of table table.tasks rows

-- the core numbers of the rows
abbrev pub cores : List Row → List ℕ
cores [] = []
cores (r ∷ rs) = r.core ∷ cores rs

-- the flags of the rows at the points of their tasks, one task after another
abbrev pub marks : List Task → List Row → List ℕ
marks ts [] = []
marks [] (r ∷ rs) = []
marks (t ∷ ts) (r ∷ rs) = map mark (flags_at t.points r.cuts) ++ marks ts rs

-- what a plan is ranked by: its cost, then its core numbers, and then its flags, where "no cut" comes before "cut"
abbrev pub rank_of : Table → List Task → List Row → List ℕ
rank_of table ts rows = cost_of table ts rows ∷ (cores rows ++ marks ts rows)

abbrev pub rank : Table → List Row → List ℕ
rank table rows = rank_of table table.tasks rows

-- the plan that is chosen: lawful, and no later than any other lawful plan
-- by cost, then by core numbers in dictionary order, then by cuts, where the first region reaches as far as it can, then the second, and so on
pub record Choice (accepts : List Entry → Type 0) (limit : List Entry → ℕ → Option ℕ) (table : Table) (rows : List Row) : Type 0 where
  pub lawful : Lawful accepts limit table rows
  pub least : (others : List Row) → Lawful accepts limit table others → NoLater (rank table rows) (rank table others)

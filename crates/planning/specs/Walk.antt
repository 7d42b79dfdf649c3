-- What the walk knows at the present beginning, and what a step makes of it.
use Rattle.std.specs.Prelude.{◌≡◌, ℕ, zero, suc, ◌+◌, ◌-◌, ◌*◌, ◌<◌, ◌≤◌, Bool, true, false, List, [], ◌∷◌, ◌++◌, length, Some, None, Option, nat_lt}
use Rattle.std.specs.Option.{option_map}
use Rattle.bounded.specs.Lists.{list_of}
use Rattle.tasks.specs.Tasks.{Task, Table}
use Rattle.tasks.specs.Tables.{sealed}
use Rattle.tasks.specs.Cuts.{cut_cost}
use Rattle.coretests.specs.declared.entry.Entry.{Entry}
use Rattle.cuts.specs.Allowed.{LeastCuts}
use Rattle.plans.specs.declared.types.Row.{Row}
use Rattle.plans.specs.declared.types.Placed.{Placed}
use Rattle.plans.specs.Plans.{rows_placed, places, placed_with, on_core, Lawful, cost, cores, Choice}
use Rattle.optimality.specs.Beginnings.{Begun, Leads, Unplaceable}
use Rattle.planning.specs.declared.types.Planned.{Planned}
use Rattle.planning.specs.declared.types.Search.{Search}
use Rattle.planning.specs.Planning.{rows_of}

-- the cost of a plan in hand is its own
abbrev pub Priced : Table → Option Planned → Type 0
Priced table None = Unit {0}
Priced table (Some p) = p.cost ≡ cost table (rows_of p)

-- The rows are worth going on from, more tasks are to be placed, and the plan in hand is the choice among the lawful plans
-- whose core numbers come before those of the rows, followed by `core`.
pub record Over (accepts : List Entry → Type 0) (limit : List Entry → ℕ → Option ℕ) (table : Table) (rows : List Row) (placed : List Placed) (core price : ℕ) (best : Option Planned) : Type 0 where
  pub short : length rows < length table.tasks
  pub low : 1 ≤ core
  pub high : core ≤ table.cores + 1
  pub placed_are : placed ≡ places table table.tasks rows
  pub price_is : price ≡ cost table rows
  pub begun : Begun accepts limit table rows
  pub leads : Leads accepts limit table (cores rows ++ core ∷ []) (option_map rows_of best)
  pub priced : Priced table best

module _ {C : Type 0} where
  -- the table that is walked, and the rows of the placed tasks
  abbrev pub table_in : Search C → Table
  table_in s = sealed s.table.now

  abbrev pub rows_in : Search C → List Row
  rows_in s = rows_placed (list_of s.placed)

module _ (accepts : List Entry → Type 0) (limit : List Entry → ℕ → Option ℕ) {C : Type 0} where
  -- it stands before the beginning of its rows and this core
  abbrev pub StandsAt : ℕ → Search C → Type 0
  StandsAt core s = Over accepts limit (table_in s) (rows_in s) (list_of s.placed) core s.cost s.best

  -- the present beginning is to be tried
  pub record Going (s : Search C) : Type 0 where
    pub stands : StandsAt s.core s
    pub within : s.core ≤ (table_in s).cores

  -- the present beginning has been tried: no plan that goes on from it is better than the plan in hand
  pub record Tried (s : Search C) : Type 0 where
    pub stands : StandsAt (s.core + 1) s
    pub within : s.core ≤ (table_in s).cores

-- how many steps are left at most: `share` of them for each core of a task with n tasks after it
abbrev pub share : ℕ → ℕ → ℕ
share m zero = 1
share m (suc n) = (m + 1) * share m n + 1

abbrev pub left : ℕ → ℕ → List ℕ → ℕ → ℕ
left m n [] c = (m + 2 - c) * share m n
left m zero (d ∷ ds) c = 0
left m (suc n) (d ∷ ds) c = (m + 1 - d) * share m (suc n) + left m n ds c

-- the steps left from its rows, followed by this core
abbrev pub steps_left : {C : Type 0} → ℕ → Search C → ℕ
steps_left core s = left (table_in s).cores (length (table_in s).tasks) (cores (rows_in s)) core

-- the plan in hand is the choice, or no plan is lawful
abbrev pub Ended : (List Entry → Type 0) → (List Entry → ℕ → Option ℕ) → Table → Option Planned → Type 0
Ended accepts limit table None = (rows : List Row) → Lawful accepts limit table rows → ⊥
Ended accepts limit table (Some p) = Choice accepts limit table (rows_of p) × (p.cost ≡ cost table (rows_of p))

-- a task, behind those that are placed: it found its place with the cuts chosen there, or it cannot go on this core
abbrev pub PutWell : (List Entry → Type 0) → (List Entry → ℕ → Option ℕ) → ℕ → List Placed → Task → ℕ → Option Placed → Type 0
PutWell accepts limit weight before t core None = (table : Table) → Unplaceable accepts limit table before t core
PutWell accepts limit weight before t core (Some p) =
    (p.row.core ≡ core) × (p ≡ placed_with t p.row (cut_cost t p.row.cuts) weight)
    × LeastCuts (limit (on_core core before) t.deadline) t p.row.cuts × accepts (on_core core before ++ p.entry ∷ [])

-- the cost is below that of the plan in hand, if there is one
abbrev pub beats : ℕ → Option Planned → Bool
beats n None = true
beats n (Some p) = nat_lt n p.cost

module _ (accepts : List Entry → Type 0) (limit : List Entry → ℕ → Option ℕ) {C : Type 0} where
  -- one task further down, or the present beginning has been tried
  abbrev pub Descends : Search C → Bool → Search C → Type 0
  Descends s true e = Going accepts limit e × (steps_left e.core e < steps_left s.core s)
  Descends s false e = Tried accepts limit e × (steps_left e.core e ≡ steps_left s.core s)

  -- at a later beginning, with fewer steps left; or at the end
  abbrev pub Advances : Search C → Bool → Search C → Type 0
  Advances s true e = Going accepts limit e × (steps_left e.core e < steps_left s.core s)
  Advances s false e = Ended accepts limit (table_in e) e.best

-- nothing is placed, the first task is to be tried on core 1, and no plan is in hand
pub record Starts {C : Type 0} (s : Search C) : Type 0 where
  pub placed : list_of s.placed ≡ []
  pub core : s.core ≡ 1
  pub cost : s.cost ≡ 0
  pub best : s.best ≡ None

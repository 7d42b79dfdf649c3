-- Beginnings of plans: rows for the first tasks of a table, and what a walk over them in dictionary order knows.
use Rattle.std.specs.Prelude.{◌≡◌, ℕ, ◌<◌, ◌≤◌, Bool, ◌⊎◌, List, [], ◌∷◌, ◌++◌, Some, None, Option}
use Rattle.tasks.specs.Tasks.{Task, Table}
use Rattle.coretests.specs.declared.entry.Entry.{Entry}
use Rattle.cuts.specs.Orders.{NoLater}
use Rattle.cuts.specs.Allowed.{Allowed, LeastCuts}
use Rattle.plans.specs.declared.types.Row.{Row}
use Rattle.plans.specs.declared.types.Placed.{Placed}
use Rattle.plans.specs.Plans.{place, places, on_core, Held, Lawful, cost, cores, rank}

-- xs comes before ps in dictionary order, and does not go on from it: where they first differ, xs is smaller
abbrev pub Before : List ℕ → List ℕ → Type 0
Before [] ps = ⊥
Before (x ∷ xs) [] = ⊥
Before (x ∷ xs) (p ∷ ps) = (x < p) ⊎ ((x ≡ p) × Before xs ps)

-- each row has the chosen cuts under the limit that the rows before it leave; there may be fewer rows than tasks
abbrev pub Greedy : (List Entry → ℕ → Option ℕ) → Table → List Placed → List Task → List Row → Type 0
Greedy limit table before ts [] = Unit {0}
Greedy limit table before [] (r ∷ rs) = ⊥
Greedy limit table before (t ∷ ts) (r ∷ rs) =
    (1 ≤ r.core) × (r.core ≤ table.cores) × LeastCuts (limit (on_core r.core before) t.deadline) t r.cuts
    × Greedy limit table (before ++ place table t r ∷ []) ts rs

-- a beginning that is worth going on from: the chosen cuts row by row, and every list accepted
pub record Begun (accepts : List Entry → Type 0) (limit : List Entry → ℕ → Option ℕ) (table : Table) (rows : List Row) : Type 0 where
  pub greedy : Greedy limit table [] table.tasks rows
  pub held : Held accepts (places table table.tasks rows)

-- the choice among the lawful plans whose core numbers come before a place, or that there is none
abbrev pub Leads : (List Entry → Type 0) → (List Entry → ℕ → Option ℕ) → Table → List ℕ → Option (List Row) → Type 0
Leads accepts limit table place None = (others : List Row) → Lawful accepts limit table others → Before (cores others) place → ⊥
Leads accepts limit table place (Some best) =
    Lawful accepts limit table best × Before (cores best) place
    × ((others : List Row) → Lawful accepts limit table others → Before (cores others) place → NoLater (rank table best) (rank table others))

-- the best plan so far, if any, costs more than n
abbrev pub Cheaper : Table → ℕ → Option (List Row) → Type 0
Cheaper table n None = Unit {0}
Cheaper table n (Some best) = n < cost table best

-- a row of the core and the cuts
abbrev pub row : ℕ → List Bool → Row
row core cuts = record { core = core; cuts = cuts }

-- a task cannot go on a core, behind those that are placed: no cuts are allowed there, or the list with its chosen cuts is not accepted
abbrev pub Unplaceable : (List Entry → Type 0) → (List Entry → ℕ → Option ℕ) → Table → List Placed → Task → ℕ → Type 0
Unplaceable accepts limit table before t core =
    ((cuts : List Bool) → Allowed (limit (on_core core before) t.deadline) t cuts → ⊥)
    ⊎ ((cuts : List Bool) × LeastCuts (limit (on_core core before) t.deadline) t cuts × (accepts (on_core core before ++ (place table t (row core cuts)).entry ∷ []) → ⊥))

-- a core that need not be tried: it is empty, and so is a lower one, which stands for it
pub record Spare (core : ℕ) (before : List Placed) : Type 0 where
  pub lower : ℕ
  pub low : 1 ≤ lower
  pub below : lower < core
  pub lower_empty : on_core lower before ≡ []
  pub empty : on_core core before ≡ []

-- Why a plan is refused, and which refusal is told first.
use Rattle.std.specs.Prelude.{◌≡◌, ℕ, ◌+◌, ◌<◌, ◌≤◌, cond, not, ◌⊎◌, List, [], ◌∷◌, ◌++◌, length, Some, None, Option, ◌==◌, ◌≢◌}
use Rattle.tasks.specs.Tasks.{Task, Table, between, every}
use Rattle.tasks.specs.Cuts.{regions}
use Rattle.tasks.specs.Refusals.{first_of}
use Rattle.tasks.specs.declared.refusal.Refusal.{Refusal}
use Rattle.tasks.specs.declared.refusal.Refusal.TheVariants.{WrongRow, WrongCut, LongRegion, OverloadedCore}
use Rattle.coretests.specs.declared.entry.Entry.{Entry}
use Rattle.cuts.specs.Allowed.{cut_beyond, within}
use Rattle.plans.specs.declared.types.Row.{Row}
use Rattle.plans.specs.declared.types.Placed.{Placed}
use Rattle.plans.specs.Plans.{place, places, on_core}

-- the first of two refusals, if any
abbrev pub or_else : Option Refusal → Option Refusal → Option Refusal
or_else None later = later
or_else (Some y) later = Some y

-- one row: a core number that the cabinet lacks, then a cut at a point that the task lacks
abbrev pub row_fault : ℕ → ℕ → Task → Row → Option Refusal
row_fault cores at t r = first_of ((not (between 1 cores r.core), WrongRow at) ∷ (cut_beyond t.points r.cuts, WrongCut at) ∷ [])

-- the same row by row
abbrev pub row_refusal : ℕ → ℕ → List Task → List Row → Option Refusal
row_refusal cores at [] rs = None
row_refusal cores at (t ∷ ts) [] = None
row_refusal cores at (t ∷ ts) (r ∷ rs) = or_else (row_fault cores at t r) (row_refusal cores (at + 1) ts rs)

-- row by row: a region longer than the limit that the entries before it on its core leave
abbrev pub region_refusal : (List Entry → ℕ → Option ℕ) → Table → ℕ → List Placed → List Task → List Row → Option Refusal
region_refusal limit table at before [] rs = None
region_refusal limit table at before (t ∷ ts) [] = None
region_refusal limit table at before (t ∷ ts) (r ∷ rs) =
    cond (every (within (limit (on_core r.core before) t.deadline)) (regions t r.cuts))
    (region_refusal limit table (at + 1) (before ++ place table t r ∷ []) ts rs)
    (Some (LongRegion at))

-- what is wrong with the rows of a plan, if anything: their number, then row by row their cores and cuts, then row by row their regions
abbrev pub plan_refusal : (List Entry → ℕ → Option ℕ) → Table → List Row → Option Refusal
plan_refusal limit table rows =
    cond (length rows == length table.tasks)
    (or_else (row_refusal table.cores 1 table.tasks rows) (region_refusal limit table 1 [] table.tasks rows))
    (Some (WrongRow 0))

-- the core is the first that has tasks whose list is not accepted
pub record FirstOverloaded (accepts : List Entry → Type 0) (table : Table) (rows : List Row) (core : ℕ) : Type 0 where
  pub low : 1 ≤ core
  pub high : core ≤ table.cores
  pub some : on_core core (places table table.tasks rows) ≡ [] → ⊥
  pub overloaded : accepts (on_core core (places table table.tasks rows)) → ⊥
  pub first : (k : ℕ) → 1 ≤ k → k < core → (on_core k (places table table.tasks rows) ≢ []) → accepts (on_core k (places table table.tasks rows))

-- the refusal of a plan that is not lawful under a test: what is wrong with its rows comes first, and then the first overloaded core
abbrev pub PlanRefused : (List Entry → Type 0) → (List Entry → ℕ → Option ℕ) → Table → List Row → Refusal → Type 0
PlanRefused accepts limit table rows y =
    (plan_refusal limit table rows ≡ Some y)
    ⊎ ((plan_refusal limit table rows ≡ None) × ((core : ℕ) × FirstOverloaded accepts table rows core × (y ≡ OverloadedCore core)))

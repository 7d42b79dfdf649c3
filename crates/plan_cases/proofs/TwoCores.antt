-- Plans of two tasks on two cores. Assumes nothing but the laws of the test.
use Rattle.std.proofs.Common.{◌≡◌, ℕ, Bool, true, List, [], ◌∷◌, Some, None, Option, refl, inr, arith}
use Rattle.tasks.specs.Tasks.{Task, Table, table_rules}
use Rattle.coretests.specs.declared.entry.Entry.{Entry}
use Rattle.cuts.specs.Allowed.{LeastCuts}
use Rattle.plans.specs.declared.types.Row.{Row}
use Rattle.plans.specs.Plans.{cost}
use Rattle.optimality.specs.Tests.{Laws}
use Rattle.optimality.specs.Beginnings.{Begun, Leads, Spare}
use Rattle.optimality.proofs.Steps.{leads_start, leads_deeper, leads_next, leads_back, leads_end, more_begun, unplaceable, whole}
use Rattle.optimality.proofs.Symmetry.{passed_over}
use Rattle.optimality.proofs.Bounds.{heavy}
use Rattle.plan_cases.specs.Cases.{on_cores, on, PlanIs}
use Rattle.plan_cases.proofs.OneCore.{seen, nothing_begun}

module _ {accepts : List Entry → Type 0} {limit : List Entry → ℕ → Option ℕ} (laws : Laws accepts limit) (t u : Task) (rules : table_rules (on_cores 2 (t ∷ u ∷ [])) ≡ true)
    (first : List Bool) (least : LeastCuts (limit [] t.deadline) t first) (alone : accepts (seen t first ∷ [])) where
  abbrev table : Table
  table = on_cores 2 (t ∷ u ∷ [])

  begun : Begun accepts limit table (on 1 first ∷ [])
  begun = more_begun laws table [] t refl (nothing_begun accepts limit table) 1 first (omega arith) (omega arith) least alone

  -- both on one core are not accepted, and each is accepted on its own
  module _ (close : List Bool) (near : LeastCuts (limit (seen t first ∷ []) u.deadline) u close) (never : accepts (seen t first ∷ seen u close ∷ []) → ⊥)
      (second : List Bool) (next : LeastCuts (limit [] u.deadline) u second) (other : accepts (seen u second ∷ [])) where
    abbrev rows : List Row
    rows = on 1 first ∷ on 2 second ∷ []

    -- in dictionary order of the core numbers: none begins with 1 1, the plan has 1 2, and all that begin with 2 have a twin that begins with 1
    together : Leads accepts limit table (1 ∷ 2 ∷ []) None
    together =
        leads_next laws table (1 ∷ []) 1 None (unplaceable laws table (on 1 first ∷ []) u refl begun 1 (omega arith) (omega arith) None (inr (close, near, never)))
        (leads_deeper laws table (1 ∷ []) None (leads_start laws table None refl))

    beside : Leads accepts limit table (2 ∷ []) (Some rows)
    beside =
        leads_back laws table [] 1 3 (Some rows) (omega arith) (omega arith)
        (whole laws table (on 1 first ∷ []) u refl begun 2 second (omega arith) (omega arith) next (heavy table rules)
        (more_begun laws table (on 1 first ∷ []) u refl begun 2 second (omega arith) (omega arith) next other) refl None tt together)

    pub apart : (n : ℕ) → cost table rows ≡ n → PlanIs accepts limit table n rows
    apart n costs = record {
      rules = rules;
      choice =
          leads_end laws table 3 (Some rows) (omega arith) (omega arith)
          (leads_next laws table [] 2 (Some rows) (passed_over accepts limit table [] 2 (Some rows) (omega arith) tt spare beside) beside);
      costs = costs;
    }
      where
        spare : Spare 2 []
        spare = record { lower = 1; low = omega arith; below = omega arith; lower_empty = refl; empty = refl }

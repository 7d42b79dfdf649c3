-- Plans of two tasks on one core. Assumes nothing but the laws of the test.
use Rattle.std.proofs.Common.{◌≡◌, ℕ, ◌≤◌, Bool, true, List, [], ◌∷◌, length, None, Option, refl, ◌∙◌, inl, inr, arith}
use Rattle.std.specs.List.{AllByRecursion}
use Rattle.tasks.specs.Tasks.{Task, Table, table_rules}
use Rattle.tasks.specs.Cuts.{load}
use Rattle.coretests.specs.declared.entry.Entry.{Entry}
use Rattle.cuts.specs.Allowed.{Allowed, LeastCuts}
use Rattle.plans.specs.declared.types.Row.{Row}
use Rattle.plans.specs.Plans.{Lawful, cores, cost}
use Rattle.optimality.specs.Tests.{Laws}
use Rattle.optimality.specs.Beginnings.{Begun}
use Rattle.optimality.proofs.Order.{Begins, begins_whole}
use Rattle.optimality.proofs.Greedy.{fits_length, fits_cores, greedy_fits, greedy_least}
use Rattle.optimality.proofs.Steps.{cores-length, more_begun, unplaceable}
use Rattle.optimality.proofs.Bounds.{heavy}
use Rattle.plan_cases.specs.Cases.{on_cores, on, PlanIs, NoPlan}

-- what a core test sees of a task with its cuts
abbrev pub seen : Task → List Bool → Entry
seen t cuts = record { period = t.period; deadline = t.deadline; load = load t cuts }

-- two numbers that can only be 1
ones : (cs : List ℕ) → length cs ≡ 2 → AllByRecursion (λ c. (1 ≤ c) × (c ≤ 1)) cs → Begins cs (1 ∷ 1 ∷ [])
ones [] l a = absurd (omega arith)
ones (c ∷ []) l a = absurd (omega arith)
ones (c ∷ d ∷ cs) l a = (omega arith, (omega (arith, a.1.0), tt))

pub nothing_begun : (accepts : List Entry → Type 0) (limit : List Entry → ℕ → Option ℕ) (table : Table) → Begun accepts limit table []
nothing_begun accepts limit table = record { greedy = tt; held = λ c some. absurd (some refl) }

module _ {accepts : List Entry → Type 0} {limit : List Entry → ℕ → Option ℕ} (laws : Laws accepts limit) (t u : Task) (rules : table_rules (on_cores 1 (t ∷ u ∷ [])) ≡ true) where
  abbrev table : Table
  table = on_cores 1 (t ∷ u ∷ [])

  begins : (qs : List Row) → Lawful accepts limit table qs → Begins (cores qs) (1 ∷ 1 ∷ [])
  begins qs law =
      ones (cores qs) (cores-length qs ∙ fits_length limit table [] (t ∷ u ∷ []) qs law.fits) (fits_cores limit table [] (t ∷ u ∷ []) qs law.fits)

  -- the first task has its chosen cuts
  module _ (first : List Bool) (least : LeastCuts (limit [] t.deadline) t first) (alone : accepts (seen t first ∷ [])) where
    begun : Begun accepts limit table (on 1 first ∷ [])
    begun = more_begun laws table [] t refl (nothing_begun accepts limit table) 1 first (omega arith) (omega arith) least alone

    -- no cuts of the second task are allowed behind it
    pub no_cuts : ((cuts : List Bool) → Allowed (limit (seen t first ∷ []) u.deadline) u cuts → ⊥) → NoPlan accepts limit table
    no_cuts never = record { rules = rules; none = λ qs law. unplaceable laws table (on 1 first ∷ []) u refl begun 1 (omega arith) (omega arith) None (inl never) qs law (begins qs law) }

    module _ (second : List Bool) (next : LeastCuts (limit (seen t first ∷ []) u.deadline) u second) where
      -- the list with its chosen cuts is not accepted
      pub no_room : (accepts (seen t first ∷ seen u second ∷ []) → ⊥) → NoPlan accepts limit table
      no_room never = record { rules = rules; none = λ qs law. unplaceable laws table (on 1 first ∷ []) u refl begun 1 (omega arith) (omega arith) None (inr (second, next, never)) qs law (begins qs law) }

      -- the list with its chosen cuts is accepted
      pub plan_is : accepts (seen t first ∷ seen u second ∷ []) → (n : ℕ) → cost table (on 1 first ∷ on 1 second ∷ []) ≡ n → PlanIs accepts limit table n (on 1 first ∷ on 1 second ∷ [])
      plan_is both n costs = record {
        rules = rules;
        choice = record {
          lawful = record { fits = greedy_fits limit table [] (t ∷ u ∷ []) rows whole.greedy refl; held = whole.held };
          least = λ qs law. greedy_least laws table rows qs (heavy table rules) whole.greedy law (begins_whole (cores qs) (1 ∷ 1 ∷ []) (long qs law) (begins qs law));
        };
        costs = costs;
      }
        where
          rows : List Row
          rows = on 1 first ∷ on 1 second ∷ []

          whole : Begun accepts limit table rows
          whole = more_begun laws table (on 1 first ∷ []) u refl begun 1 second (omega arith) (omega arith) next both

          long : (qs : List Row) → Lawful accepts limit table qs → length (cores qs) ≡ 2
          long qs law = cores-length qs ∙ fits_length limit table [] (t ∷ u ∷ []) qs law.fits

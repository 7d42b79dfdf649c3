-- The next task on the present core: each way out of `descend`. Assumes nothing but the laws of the test.
use Rattle.std.proofs.Common.{◌≡◌, ℕ, ◌+◌, ◌<◌, ◌≤◌, true, false, List, [], ◌∷◌, ◌++◌, map, length, get_or, Some, None, Option, sym, ap, ◌∙◌, subst, arith}
use Rattle.std.proofs.lemmas.List.{map-append}
use Rattle.bounded.specs.Lists.{list_of}
use Rattle.tasks.specs.Tasks.{Task, Table, in_range, weight, table_rules}
use Rattle.tasks.specs.Stored.{task_of, tasks_of}
use Rattle.tasks.specs.declared.task.Task.{Task as Stored}
use Rattle.tasks.proofs.Rules.{rules_are}
use Rattle.coretests.specs.declared.entry.Entry.{Entry}
use Rattle.plans.specs.declared.types.Row.{Row}
use Rattle.plans.specs.declared.types.Placed.{Placed}
use Rattle.plans.specs.Plans.{cores}
use Rattle.plans.proofs.Costs.{plan_cost_small}
use Rattle.optimality.specs.Tests.{Laws}
use Rattle.optimality.specs.Beginnings.{Spare}
use Rattle.optimality.proofs.Steps.{Here, cores-length}
use Rattle.optimality.proofs.Bounds.{heavy}
use Rattle.planning.specs.declared.types.Planned.{Planned}
use Rattle.planning.specs.declared.types.Search.{Search}
use Rattle.planning.specs.Planning.{rows_of}
use Rattle.planning.specs.Walk.{Over, Going, PutWell, beats, left, steps_left, table_in, rows_in}
use Rattle.planning.proofs.Measure.{left_deeper}
use Rattle.planning.proofs.Moves.{places-length, move_spare, move_unplaceable, price_more, move_dear, move_deeper, move_whole, cores-more}
use Rattle.planning.proofs.Next.{count_is, next_in_range, next_here}

module _ {accepts : List Entry → Type 0} {limit : List Entry → ℕ → Option ℕ} (laws : Laws accepts limit) {C : Type 0} (s : Search C) (rules : table_rules (table_in s) ≡ true) (going : Going accepts limit s) where
  abbrev table : Table
  table = table_in s

  abbrev rs : List Row
  rs = rows_in s

  abbrev ps : List Placed
  ps = list_of s.placed

  over : Over accepts limit table rs ps s.core s.cost s.best
  over = going.stands

  -- as many rows as tasks that are placed, and fewer than the table's
  placed_length : length ps ≡ length rs
  placed_length = ap length over.placed_are ∙ places-length table table.tasks rs (omega (arith, over.short))

  pub placed_short : length ps < length table.tasks
  placed_short = omega (arith, placed_length, over.short)

  pub placed_few : length ps < 24
  placed_few = omega (arith, placed_short, (rules_are table rules).few)

  pub spare_tried : Spare s.core ps → Over accepts limit table rs ps (s.core + 1) s.cost s.best
  spare_tried spare = move_spare laws table rs ps s.core s.cost s.best over going.within spare

  -- x is the next task
  module _ (stored : List Stored) (same : tasks_of stored ≡ table.tasks) (x : Stored) (is : x ≡ get_or stored (length ps) x) where
    abbrev t : Task
    t = task_of x

    pub in_range_lem : in_range t ≡ true
    in_range_lem = next_in_range table stored same (length ps) x is placed_short rules

    here : Here table.tasks rs t
    here = next_here table stored same (length ps) x is placed_short rs (sym placed_length)

    pub none_tried : PutWell accepts limit (weight table t) ps t s.core None → Over accepts limit table rs ps (s.core + 1) s.cost s.best
    none_tried well = move_unplaceable laws table rs ps s.core s.cost s.best over t here going.within well

    module _ (p : Placed) (well : PutWell accepts limit (weight table t) ps t s.core (Some p)) where
      pub sum_fits : s.cost + p.overhead ≤ 360000000000000
      sum_fits = omega (arith, price_more laws table rs ps s.core s.cost s.best over t here going.within p well, (plan_cost_small table rules (rs ++ p.row ∷ [])).1)

      pub dear_tried : beats (s.cost + p.overhead) s.best ≡ false → Over accepts limit table rs ps (s.core + 1) s.cost s.best
      dear_tried dear = move_dear laws table rs ps s.core s.cost s.best over t here going.within p well dear

      module _ (qs : List Placed) (grew : qs ≡ ps ++ p ∷ []) where
        rows_grew : map (λ q. q.row) qs ≡ rs ++ p.row ∷ []
        rows_grew = ap (map (λ q. q.row)) grew ∙ map-append (λ q. q.row) ps (p ∷ [])

        pub whole_tried : beats (s.cost + p.overhead) s.best ≡ true → length ps + 1 ≡ length stored → (plan : Planned) → rows_of plan ≡ map (λ q. q.row) qs → plan.cost ≡ s.cost + p.overhead
            → Over accepts limit table rs ps (s.core + 1) s.cost (Some plan)
        whole_tried cheap full plan rows cost =
            move_whole laws table rs ps s.core s.cost s.best over t here going.within p well (heavy table rules) (omega (arith, placed_length, full, count_is table stored same)) cheap plan (rows ∙ rows_grew) cost

        -- one task further down
        pub goes_down : (length ps + 1 ≡ length stored → ⊥) → Over accepts limit table (map (λ q. q.row) qs) qs 1 (s.cost + p.overhead) s.best × (left table.cores (length table.tasks) (cores (map (λ q. q.row) qs)) 1 < steps_left s.core s)
        goes_down more = (
          subst (λ (a : List Row). Over accepts limit table a qs 1 (s.cost + p.overhead) s.best) (sym rows_grew) (subst (λ (a : List Placed). Over accepts limit table (rs ++ p.row ∷ []) a 1 (s.cost + p.overhead) s.best) (sym grew)
              (move_deeper laws table rs ps s.core s.cost s.best over t here going.within p well (omega (arith, over.short, placed_length, more, count_is table stored same)))),
          subst (λ (a : List ℕ). left table.cores (length table.tasks) a 1 < steps_left s.core s) (sym (ap cores rows_grew ∙ cores-more laws table rs ps s.core s.cost s.best over t here going.within p well))
              (left_deeper table.cores (length table.tasks) (cores rs) s.core (omega (arith, cores-length rs, over.short)) going.within),
        )

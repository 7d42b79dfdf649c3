-- Tasks as their rows place them, one by one. Assumes nothing.
use Rattle.std.proofs.Common.{◌≡◌, ℕ, ◌+◌, ◌/◌, ◌<◌, ◌≤◌, true, ◌⊎◌, List, [], ◌∷◌, ◌++◌, length, sym, refl, ap, ◌∙◌, subst, inl, inr, append_assoc, arith}
use Rattle.std.proofs.lemmas.List.{append-nil, length_push}
use Rattle.std.proofs.lemmas.Bool.{and_parts}
use Rattle.span.specs.Spans.{span_of}
use Rattle.tasks.specs.declared.task.Task.{Task as Stored}
use Rattle.tasks.specs.Stored.{tasks_of}
use Rattle.tasks.specs.Tasks.{Task, Table, every, in_range, periods, table_rules}
use Rattle.tasks.specs.Cuts.{cut_cost}
use Rattle.tasks.proofs.Rules.{rules_are}
use Rattle.plans.specs.declared.types.Row.{Row}
use Rattle.plans.specs.declared.types.Placed.{Placed}
use Rattle.plans.specs.Plans.{place, placed_with, places}

-- with the span and what the cuts cost in hand
pub place_with : (table : Table) (t : Task) (r : Row) (span price : ℕ) → span ≡ span_of (periods table.tasks) → price ≡ cut_cost t r.cuts → placed_with t r price (span / t.period) ≡ place table t r
place_with table t r span price is costs = λ i. placed_with t r (costs i) (is i / t.period)

-- nothing is placed where there is no task or no row
pub places-none : (table : Table) (ts : List Task) (rs : List Row) → (ts ≡ []) ⊎ (rs ≡ []) → places table ts rs ≡ []
places-none table ts rs (inl e) = ap (λ l. places table l rs) e ∙ no_task rs
  where
    no_task : (rows : List Row) → places table [] rows ≡ []
    no_task [] = refl
    no_task (r ∷ rows) = refl
places-none table ts rs (inr e) = ap (places table ts) e

-- there are no more places than tasks
pub places_long : (table : Table) (ts : List Task) (rs : List Row) → length (places table ts rs) ≤ length ts
places_long table ts [] = omega arith
places_long table [] (r ∷ rs) = omega arith
places_long table (t ∷ ts) (r ∷ rs) = omega (arith, places_long table ts rs)

-- a loop over tasks and rows: those that are left complete the places, and have room
pub record Placing (table : Table) (rows : List Row) (done : List Placed) (ts : List Task) (rs : List Row) : Type 0 where
  pub room : length done + length ts ≤ 24
  pub rest : done ++ places table ts rs ≡ places table table.tasks rows

module _ (table : Table) (rows : List Row) where
  pub placing_start : table_rules table ≡ true → Placing table rows [] table.tasks rows
  placing_start h = let rules = rules_are table h in record { room = omega (arith, rules.few); rest = refl }

  pub placing_at : (done : List Placed) (xs ys : List Stored) (rs ss : List Row) → xs ≡ ys → rs ≡ ss → Placing table rows done (tasks_of xs) rs → Placing table rows done (tasks_of ys) ss
  placing_at done xs ys rs ss e f p = subst (λ l. Placing table rows done (tasks_of ys) l) f (subst (λ l. Placing table rows done (tasks_of l) rs) e p)

  module _ (done : List Placed) (t : Task) (ts : List Task) (r : Row) (rs : List Row) (p : Placing table rows done (t ∷ ts) (r ∷ rs)) where
    pub placing_room : length done < 24
    placing_room = omega (arith, p.room)

    pub placing_more : Placing table rows (done ++ place table t r ∷ []) ts rs
    placing_more = record {
      room = omega (arith, p.room, length_push done (place table t r));
      rest = append_assoc done (place table t r ∷ []) (places table ts rs) ∙ p.rest;
    }

  pub placing_end : (done : List Placed) (ts : List Task) (rs : List Row) → Placing table rows done ts rs → (ts ≡ []) ⊎ (rs ≡ []) → done ≡ places table table.tasks rows
  placing_end done ts rs p e = sym (ap (λ l. done ++ l) (places-none table ts rs e) ∙ append-nil done) ∙ p.rest

-- a loop over tasks and rows as above, where the tasks that are left are in range too
pub record RangedPlacing (table : Table) (rows : List Row) (done : List Placed) (ts : List Task) (rs : List Row) : Type 0 where
  pub ranges : every in_range ts ≡ true
  pub placing : Placing table rows done ts rs

module _ (table : Table) (rows : List Row) where
  pub ranged_start : table_rules table ≡ true → RangedPlacing table rows [] table.tasks rows
  ranged_start h = record { ranges = (rules_are table h).ranges; placing = placing_start table rows h }

  pub ranged_at : (done : List Placed) (xs ys : List Stored) (rs ss : List Row) → xs ≡ ys → rs ≡ ss → RangedPlacing table rows done (tasks_of xs) rs → RangedPlacing table rows done (tasks_of ys) ss
  ranged_at done xs ys rs ss e f p = record {
    ranges = ap (λ l. every in_range (tasks_of l)) (sym e) ∙ p.ranges;
    placing = placing_at table rows done xs ys rs ss e f p.placing;
  }

  module _ (done : List Placed) (t : Task) (ts : List Task) (r : Row) (rs : List Row) (p : RangedPlacing table rows done (t ∷ ts) (r ∷ rs)) where
    pub placing_range : in_range t ≡ true
    placing_range = (and_parts (in_range t) (every in_range ts) p.ranges).0

    pub ranged_more : RangedPlacing table rows (done ++ place table t r ∷ []) ts rs
    ranged_more = record {
      ranges = (and_parts (in_range t) (every in_range ts) p.ranges).1;
      placing = placing_more table rows done t ts r rs p.placing;
    }

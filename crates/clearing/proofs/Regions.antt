-- What regions are refused for, one task after another. Assumes nothing.
use Rattle.std.proofs.Common.{◌≡◌, ℕ, ◌+◌, ◌<◌, ◌≤◌, ◌⊎◌, ⊎_elim, true, cond, List, [], ◌∷◌, ◌++◌, length, Some, None, Option, sym, refl, ap, ◌∙◌, subst, arith}
use Rattle.std.proofs.lemmas.List.{length_push}
use Rattle.std.proofs.lemmas.Bool.{and_parts}
use Rattle.tasks.specs.declared.refusal.Refusal.TheVariants.{LongRegion}
use Rattle.tasks.specs.Tasks.{Task, Table, every, in_range}
use Rattle.tasks.specs.Cuts.{regions}
use Rattle.coretests.specs.declared.entry.Entry.{Entry}
use Rattle.cuts.specs.Allowed.{within}
use Rattle.plans.specs.declared.types.Row.{Row}
use Rattle.plans.specs.declared.types.Placed.{Placed}
use Rattle.plans.specs.Plans.{place, places, on_core, rows_placed}
use Rattle.clearing.specs.Refused.{region_refusal}

-- the rows of places are the rows that were placed
pub rows_placed-places : (table : Table) (ts : List Task) (rs : List Row) → length rs ≡ length ts → rows_placed (places table ts rs) ≡ rs
rows_placed-places table [] [] e = refl
rows_placed-places table [] (r ∷ rs) e = absurd (omega arith)
rows_placed-places table (t ∷ ts) [] e = absurd (omega arith)
rows_placed-places table (t ∷ ts) (r ∷ rs) e = ap (λ l. r ∷ l) (rows_placed-places table ts rs (omega arith))

-- a loop over tasks and their places: those that are left are placed by their rows, and are refused as the whole is
pub record Examining (limit : List Entry → ℕ → Option ℕ) (table : Table) (rows : List Row) (before : List Placed) (i : ℕ) (ts : List Task) (ps : List Placed) : Type 0 where
  pub left : ps ≡ places table ts (rows_placed ps)
  pub room : length before + length ts ≤ 24
  pub same : region_refusal limit table (i + 1) before ts (rows_placed ps) ≡ region_refusal limit table 1 [] table.tasks rows

module _ (limit : List Entry → ℕ → Option ℕ) (table : Table) (rows : List Row) where
  module _ (before : List Placed) (i : ℕ) (t : Task) (ts us : List Task) (p : Placed) (ps qs : List Placed) (tasks : us ≡ t ∷ ts) (places-left : qs ≡ p ∷ ps) (x : Examining limit table rows before i us qs) where
    here : Examining limit table rows before i (t ∷ ts) (p ∷ ps)
    here = subst (λ l. Examining limit table rows before i (t ∷ ts) l) places-left (subst (λ l. Examining limit table rows before i l qs) tasks x)

    pub examining_room : length before < 24
    examining_room = omega (arith, here.room)

    pub examining_more : every (within (limit (on_core p.row.core before) t.deadline)) (regions t p.row.cuts) ≡ true → Examining limit table rows (before ++ p ∷ []) (i + 1) ts ps
    examining_more short =
        let is : p ≡ place table t p.row = cc in
        let rest : ps ≡ places table ts (rows_placed ps) = cc in
        record {
          left = rest;
          room = omega (arith, here.room, length_push before p);
          same =
              ap (λ l. region_refusal limit table (i + 1 + 1) (before ++ l ∷ []) ts (rows_placed ps)) is
              ∙ sym (ap (λ b. cond b (region_refusal limit table (i + 1 + 1) (before ++ place table t p.row ∷ []) ts (rows_placed ps)) (Some (LongRegion (i + 1)))) short) ∙ here.same;
        }

  pub examining_end : (before : List Placed) (i : ℕ) (ts : List Task) (ps : List Placed) → Examining limit table rows before i ts ps → (ts ≡ []) ⊎ (ps ≡ []) → None ≡ region_refusal limit table 1 [] table.tasks rows
  examining_end before i [] ps x e = x.same
  examining_end before i (t ∷ ts) [] x e = x.same
  examining_end before i (t ∷ ts) (p ∷ ps) x e = ⊎_elim (λ q. cc) (λ q. cc) e

-- a loop over tasks and their places as above, where the tasks that are left are in range too
pub record RangedExamining (limit : List Entry → ℕ → Option ℕ) (table : Table) (rows : List Row) (before : List Placed) (i : ℕ) (ts : List Task) (ps : List Placed) : Type 0 where
  pub ranges : every in_range ts ≡ true
  pub examining : Examining limit table rows before i ts ps

module _ (limit : List Entry → ℕ → Option ℕ) (table : Table) (rows : List Row) (before : List Placed) (i : ℕ) (t : Task) (ts us : List Task) (p : Placed) (ps qs : List Placed) (tasks : us ≡ t ∷ ts) (places-left : qs ≡ p ∷ ps) (x : RangedExamining limit table rows before i us qs) where
  ranges_here : every in_range (t ∷ ts) ≡ true
  ranges_here = ap (every in_range) (sym tasks) ∙ x.ranges

  pub examining_range : in_range t ≡ true
  examining_range = (and_parts (in_range t) (every in_range ts) ranges_here).0

  pub ranged_more : every (within (limit (on_core p.row.core before) t.deadline)) (regions t p.row.cuts) ≡ true → RangedExamining limit table rows (before ++ p ∷ []) (i + 1) ts ps
  ranged_more short = record {
    ranges = (and_parts (in_range t) (every in_range ts) ranges_here).1;
    examining = examining_more limit table rows before i t ts us p ps qs tasks places-left x.examining short;
  }

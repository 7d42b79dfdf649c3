-- The rules of a table as facts, and that a new table and a granted task keep them. Assumes nothing.
use Rattle.std.proofs.Common.{◌≡◌, ℕ, ◌<◌, ◌≤◌, true, false, cond, not, ltb, leb, List, [], ◌∷◌, map, length, Some, None, Option, refl, ap, ◌∙◌, arith, le-leb, leb-true}
use Rattle.std.proofs.lemmas.Bool.{and_parts, and_from}
use Rattle.std.proofs.lemmas.Bool.Decides.{nat_tests}
use Rattle.span.specs.Spans.{span_of, span_from, Positive}
use Rattle.tasks.specs.Tasks.{Task, Table, between, every, in_range, has_id, distinct, ordered, periods, inserted, with_task, empty_on, table_rules}
use Rattle.tasks.specs.declared.task.Task.{Task as Stored}
use Rattle.tasks.specs.Stored.{tasks_of}
use Rattle.tasks.specs.Tables.{sealed, add_refusal}
use Rattle.tasks.specs.declared.table.Sealed.{Sealed}
use Rattle.tasks.specs.declared.refusal.Refusal.{Refusal}
use Rattle.tasks.specs.declared.refusal.Refusal.TheVariants.{OutOfRange, IdTaken, TableFull, LongSpan}
use Rattle.tasks.proofs.Order.{length_inserted, every_inserted, ordered-inserted, distinct-inserted}

-- the rules of a table, one by one
pub record Rules (table : Table) : Type 0 where
  pub cores : between 1 8 table.cores ≡ true
  pub few : length table.tasks ≤ 24
  pub ranges : every in_range table.tasks ≡ true
  pub ids : distinct table.tasks ≡ true
  pub order : ordered table.tasks ≡ true
  pub short : span_of (periods table.tasks) ≤ 1000000

pub rules_are : (table : Table) → table_rules table ≡ true → Rules table
rules_are table h =
    let ts = table.tasks in
    let a = and_parts (between 1 8 table.cores) _ h in
    let b = and_parts (leb (length ts) 24) _ a.1 in
    let c = and_parts (every in_range ts) _ b.1 in
    let d = and_parts (distinct ts) _ c.1 in
    let e = and_parts (ordered ts) (leb (span_of (periods ts)) 1000000) d.1 in
    record { cores = a.0; few = leb-true (length ts) 24 b.0; ranges = c.0; ids = d.0; order = e.0; short = leb-true (span_of (periods ts)) 1000000 e.1 }

-- what a sealed table keeps, by its type: for callers, since its fields are private
pub sealed_rules : (s : Sealed) → table_rules (sealed s) ≡ true
sealed_rules s = s.table.rules

pub rules_make : (table : Table) → Rules table → table_rules table ≡ true
rules_make table r =
    and_from _ _ r.cores (and_from _ _ (le-leb _ _ r.few) (and_from _ _ r.ranges (and_from _ _ r.ids (and_from _ _ r.order (le-leb _ _ r.short)))))

pub rules_empty : (cores : ℕ) → between 1 8 cores ≡ true → table_rules (empty_on cores) ≡ true
unfolding span_of span_from
rules_empty cores h = and_from (between 1 8 cores) _ h refl

pub in_range_period : (t : Task) → in_range t ≡ true → 0 < t.period
in_range_period t h =
    let a = and_parts (between 1 9999999 t.id) _ h in
    let b = and_parts (between 1 1000000 t.period) _ a.1 in
    grind (arith, nat_tests, b.0)

pub positive : (ts : List Task) → every in_range ts ≡ true → Positive (periods ts)
positive [] h = tt
positive (t ∷ ts) h = let hs = and_parts (in_range t) (every in_range ts) h in (in_range_period t hs.0, positive ts hs.1)

pub table_positive : (table : Table) → table_rules table ≡ true → Positive (periods table.tasks)
table_positive table h = positive table.tasks (rules_are table h).ranges

pub stored_periods : (ts : List Stored) → map (λ (t : Stored). t.period) ts ≡ periods (tasks_of ts)
stored_periods [] = refl
stored_periods (t ∷ ts) = ap (λ l. t.period ∷ l) (stored_periods ts)

module _ (table : Table) (x : Task) where
  -- what is left to refuse a task for, once the rest is ruled out
  pub refusal_left : (at : ℕ) → in_range x ≡ true → has_id x.id table.tasks ≡ false → length table.tasks < 24 → add_refusal at table x ≡ cond (ltb 1000000 (span_of (periods (inserted x table.tasks)))) (Some (LongSpan at)) None
  refusal_left at a b c =
      let long : Option Refusal = cond (ltb 1000000 (span_of (periods (inserted x table.tasks)))) (Some (LongSpan at)) None in
      let full : leb 24 (length table.tasks) ≡ false = grind (arith, nat_tests) in
      ap (λ v. cond (not v) (Some (OutOfRange at)) (cond (has_id x.id table.tasks) (Some (IdTaken at)) (cond (leb 24 (length table.tasks)) (Some (TableFull at)) long))) a
      ∙ ap (λ v. cond v (Some (IdTaken at)) (cond (leb 24 (length table.tasks)) (Some (TableFull at)) long)) b
      ∙ ap (λ v. cond v (Some (TableFull at)) long) full

  pub refusal_full : (at : ℕ) → in_range x ≡ true → has_id x.id table.tasks ≡ false → 24 ≤ length table.tasks → add_refusal at table x ≡ Some (TableFull at)
  refusal_full at a b c =
      let long : Option Refusal = cond (ltb 1000000 (span_of (periods (inserted x table.tasks)))) (Some (LongSpan at)) None in
      ap (λ v. cond (not v) (Some (OutOfRange at)) (cond (has_id x.id table.tasks) (Some (IdTaken at)) (cond (leb 24 (length table.tasks)) (Some (TableFull at)) long))) a
      ∙ ap (λ v. cond v (Some (IdTaken at)) (cond (leb 24 (length table.tasks)) (Some (TableFull at)) long)) b
      ∙ ap (λ v. cond v (Some (TableFull at)) long) (le-leb 24 (length table.tasks) c)

pub rules_added : (table : Table) (x : Task) → table_rules table ≡ true → in_range x ≡ true → has_id x.id table.tasks ≡ false → length table.tasks < 24 → span_of (periods (inserted x table.tasks)) ≤ 1000000 → table_rules (with_task table x) ≡ true
rules_added table x h a b c d =
    let r = rules_are table h in
    rules_make (with_task table x)
    (record {
      cores = r.cores;
      few = omega (arith, length_inserted x table.tasks);
      ranges = every_inserted in_range x table.tasks a r.ranges;
      ids = distinct-inserted x table.tasks r.ids b;
      order = ordered-inserted 0 x table.tasks (le-leb 0 x.deadline (omega arith)) r.order;
      short = d;
    })

-- The search before its first step, and a table of no task. Assumes nothing but the laws of the test.
use Rattle.std.proofs.Common.{◌≡◌, ℕ, ◌<◌, ◌≤◌, List, [], ◌∷◌, map, length, Option, sym, refl, ap, subst, inr, arith}
use Rattle.std.specs.Option.{option_map}
use Rattle.tasks.specs.Tasks.{Task, Table}
use Rattle.coretests.specs.declared.entry.Entry.{Entry}
use Rattle.cuts.specs.Orders.{NoLater}
use Rattle.plans.specs.declared.types.Row.{Row}
use Rattle.plans.specs.declared.types.Placed.{Placed}
use Rattle.plans.specs.Plans.{Fits, rank_of, Choice}
use Rattle.optimality.specs.Tests.{Laws}
use Rattle.optimality.specs.Beginnings.{Leads}
use Rattle.optimality.proofs.Steps.{leads_start}
use Rattle.planning.specs.declared.types.Search.{Search}
use Rattle.planning.specs.Planning.{rows_of}
use Rattle.planning.specs.Walk.{table_in, Priced, Over, Going, Starts}

pub going_start : {accepts : List Entry → Type 0} {limit : List Entry → ℕ → Option ℕ} (laws : Laws accepts limit) {C : Type 0} (s : Search C) → Starts s → 1 ≤ (table_in s).cores → 0 < length (table_in s).tasks → Going accepts limit s
going_start {accepts} {limit} laws s start some tasks =
    let table = table_in s in
    let led : Leads accepts limit table (1 ∷ []) (option_map rows_of s.best) = leads_start laws table (option_map rows_of s.best) (ap (option_map rows_of) start.best) in
    let over : Over accepts limit table [] [] s.core s.cost s.best = record {
      short = tasks;
      low = omega (arith, start.core);
      high = omega (arith, start.core);
      placed_are = refl;
      price_is = start.cost;
      begun = record { greedy = tt; held = λ c h. absurd (h refl) };
      leads = subst (λ (c : ℕ). Leads accepts limit table (c ∷ []) (option_map rows_of s.best)) (sym start.core) led;
      priced = subst (Priced table) (sym start.best) tt;
    } in
    record {
      stands = subst (λ (a : List Placed). Over accepts limit table (map (λ p. p.row) a) a s.core s.cost s.best) (sym start.placed) over;
      within = omega (arith, start.core);
    }

-- the empty plan is the choice of an empty table
pub empty_choice : (accepts : List Entry → Type 0) (limit : List Entry → ℕ → Option ℕ) (table : Table) (rows : List Row) → table.tasks ≡ [] → rows ≡ [] → Choice accepts limit table rows
empty_choice accepts limit table rows none is = subst (Choice accepts limit table) (sym is) (record {
  lawful = record { fits = subst (λ (ts : List Task). Fits limit table [] ts []) (sym none) tt; held = λ c h. absurd (h refl) };
  least = λ others law. subst (λ (ts : List Task). Fits limit table [] ts others → NoLater (rank_of table ts []) (rank_of table ts others)) (sym none) (go others) law.fits;
})
  where
    go : (others : List Row) → Fits limit table [] [] others → NoLater (rank_of table [] []) (rank_of table [] others)
    go [] f = inr (refl, tt)
    go (r ∷ rs) f = absurd f

-- The cost of a plan is that of its places, and is bounded. Assumes nothing.
use Rattle.std.proofs.Common.{◌≡◌, ℕ, zero, suc, ◌+◌, ◌*◌, ◌<◌, ◌≤◌, Bool, true, List, [], ◌∷◌, length, get_or, sum_by, sym, refl, ap, ◌∙◌, subst, mul-le-mul, div-le_self, arith}
use Rattle.std.proofs.lemmas.List.Sums.{sum_by-cons}
use Rattle.std.proofs.lemmas.Bool.{and_parts}
use Rattle.span.specs.Spans.{span_of}
use Rattle.tasks.specs.Tasks.{Task, Table, every, in_range, periods, weight, table_rules}
use Rattle.tasks.specs.Cuts.{overhead}
use Rattle.tasks.proofs.Rules.{rules_are}
use Rattle.cuts.proofs.Ranges.{cut_cost_bound}
use Rattle.plans.specs.declared.types.Row.{Row}
use Rattle.plans.specs.declared.types.Placed.{Placed}
use Rattle.plans.specs.Plans.{place, places, cost_of, cost}

-- the overheads, added up
abbrev pub overheads : List Placed → ℕ
overheads ps = sum_by (λ p. p.overhead) ps

pub cost-places : (table : Table) (ts : List Task) (rs : List Row) → cost_of table ts rs ≡ overheads (places table ts rs)
cost-places table ts [] = refl
cost-places table [] (r ∷ rs) = refl
cost-places table (t ∷ ts) (r ∷ rs) = ap (λ n. overhead table t r.cuts + n) (cost-places table ts rs) ∙ sym (sum_by-cons (λ p. p.overhead) (place table t r) (places table ts rs))

module _ (table : Table) (rules : table_rules table ≡ true) where
  -- a weight is no greater than the span
  pub weight_small : (t : Task) → weight table t ≤ 1000000
  weight_small t = omega (arith, div-le_self (span_of (periods table.tasks)) t.period, (rules_are table rules).short)

  pub overhead_small : (t : Task) (cuts : List Bool) → in_range t ≡ true → overhead table t cuts ≤ 15000000000000
  overhead_small t cuts h = mul-le-mul (weight_small t) (cut_cost_bound t cuts h)

  -- by the rows, and by the tasks
  pub cost_small : (ts : List Task) (rs : List Row) → every in_range ts ≡ true → (cost_of table ts rs ≤ 15000000000000 * length rs) × (cost_of table ts rs ≤ 15000000000000 * length ts)
  cost_small ts [] h = (omega arith, omega arith)
  cost_small [] (r ∷ rs) h = (omega arith, omega arith)
  cost_small (t ∷ ts) (r ∷ rs) h =
      let hs = and_parts (in_range t) (every in_range ts) h in
      let rest = cost_small ts rs hs.1 in
      (omega (arith, overhead_small t r.cuts hs.0, rest.0), omega (arith, overhead_small t r.cuts hs.0, rest.1))

  -- of a plan, or a beginning of one
  pub plan_cost_small : (rs : List Row) → (cost table rs ≤ 15000000000000 * length rs) × (cost table rs ≤ 360000000000000)
  plan_cost_small rs =
      let small = cost_small table.tasks rs (rules_are table rules).ranges in
      (small.0, omega (arith, small.1, (rules_are table rules).few))

  -- the overhead of each place
  pub overhead_at : (rows : List Row) (ps : List Placed) (i : ℕ) (d : Placed) → ps ≡ places table table.tasks rows → i < length ps → (get_or ps i d).overhead ≤ 15000000000000
  overhead_at rows ps i d is h = subst (λ (qs : List Placed). i < length qs → (get_or qs i d).overhead ≤ 15000000000000) (sym is) (each table.tasks rows i (rules_are table rules).ranges) h
    where
      each : (ts : List Task) (rs : List Row) (i : ℕ) → every in_range ts ≡ true → i < length (places table ts rs) → (get_or (places table ts rs) i d).overhead ≤ 15000000000000
      each ts [] i a l = absurd (omega arith)
      each [] (r ∷ rs) i a l = absurd (omega arith)
      each (t ∷ ts) (r ∷ rs) zero a l = overhead_small t r.cuts (and_parts (in_range t) (every in_range ts) a).0
      each (t ∷ ts) (r ∷ rs) (suc i) a l = each ts rs i (and_parts (in_range t) (every in_range ts) a).1 (omega arith)

-- Weights are at least 1, and no cost of a plan is large. Assumes nothing.
use Rattle.std.proofs.Common.{◌≡◌, ℕ, ◌/◌, ◌<◌, ◌≤◌, true, List, [], ◌∷◌, le-div_iff_mul-le, arith}
use native.Mathlib.Nat.{le_of_dvd, dvd_of_mod-eq-zero}
use Rattle.std.specs.List.{AllByRecursion}
use Rattle.span.specs.Spans.{span_of, Positive, CommonMultiple}
use Rattle.span.proofs.Multiples.{span_some, span_common}
use Rattle.tasks.specs.Tasks.{Task, Table, periods, weight, table_rules}
use Rattle.tasks.proofs.Rules.{table_positive}

-- a multiple above 0 has room for each period
periods-within : (n : ℕ) → 0 < n → (ts : List Task) → Positive (periods ts) → CommonMultiple (periods ts) n → AllByRecursion (λ t. 1 ≤ n / t.period) ts
periods-within n some [] all common = tt
periods-within n some (t ∷ ts) all common =
    let low : t.period ≤ n = le_of_dvd some (dvd_of_mod-eq-zero t.period common.0) in
    ((le-div_iff_mul-le all.0).1 (omega arith), periods-within n some ts all.1 common.1)

module _ (table : Table) (rules : table_rules table ≡ true) where
  pub heavy : AllByRecursion (λ t. 1 ≤ weight table t) table.tasks
  heavy =
      let ps = periods table.tasks in
      let all = table_positive table rules in
      periods-within (span_of ps) (span_some ps all) table.tasks all (span_common ps all)

-- The task that is to be placed next. Assumes nothing.
use Rattle.std.proofs.Common.{◌≡◌, ℕ, zero, suc, ◌+◌, ◌-◌, ◌<◌, ◌≤◌, Bool, true, false, leb, refl, List, [], ◌∷◌, length, get_or, sym, ap, ◌∙◌, subst, arith}
use Rattle.std.specs.Bool.{MatchBool, Decides}
use Rattle.std.specs.List.{range_with_len, HoldsAt, AllWithin}
use Rattle.std.proofs.lemmas.List.{get_or-map}
use Rattle.std.proofs.lemmas.List.FromFn.{length-range_with_len, get_or-range_with_len}
use Rattle.std.proofs.lemmas.Bool.{and_parts, leb-true}
use Rattle.tasks.specs.Tasks.{Task, Table, every, in_range, table_rules}
use Rattle.tasks.specs.Stored.{task_of, tasks_of}
use Rattle.tasks.specs.declared.task.Task.{Task as Stored}
use Rattle.tasks.proofs.Order.{length_stored}
use Rattle.tasks.proofs.Rules.{rules_are}
use Rattle.plans.specs.declared.types.Row.{Row}
use Rattle.plans.specs.declared.types.Placed.{Placed}
use Rattle.plans.specs.Plans.{on_core}
use Rattle.optimality.specs.Beginnings.{Spare}
use Rattle.optimality.proofs.Steps.{Here, here_get}

every_at : (test : Task → Bool) (ts : List Task) (i : ℕ) (d : Task) → i < length ts → every test ts ≡ true → test (get_or ts i d) ≡ true
every_at test [] i d h all = absurd (omega arith)
every_at test (t ∷ ts) zero d h all = (and_parts (test t) (every test ts) all).0
every_at test (t ∷ ts) (suc i) d h all = every_at test ts i d (omega arith) (and_parts (test t) (every test ts) all).1

-- how many cores a table has
pub cores_range : (table : Table) → table_rules table ≡ true → (1 ≤ table.cores) × (table.cores ≤ 8)
cores_range table rules =
    let b = and_parts (leb 1 table.cores) (leb table.cores 8) (rules_are table rules).cores in
    (leb-true 1 table.cores b.0, leb-true table.cores 8 b.1)

module _ (table : Table) (stored : List Stored) (same : tasks_of stored ≡ table.tasks) where
  pub count_is : length stored ≡ length table.tasks
  count_is = sym (length_stored stored) ∙ ap length same

  -- x stands at place i
  module _ (i : ℕ) (x : Stored) (is : x ≡ get_or stored i x) (h : i < length table.tasks) where
    next_is : get_or table.tasks i (task_of x) ≡ task_of x
    next_is = ap (λ ts. get_or ts i (task_of x)) (sym same) ∙ get_or-map task_of stored i x (task_of x) (omega (arith, count_is)) ∙ ap task_of (sym is)

    pub next_in_range : table_rules table ≡ true → in_range (task_of x) ≡ true
    next_in_range rules = subst (λ (t : Task). in_range t ≡ true) next_is (every_at in_range table.tasks i (task_of x) h (rules_are table rules).ranges)

    pub next_here : (rs : List Row) → length rs ≡ i → Here table.tasks rs (task_of x)
    next_here rs e = subst (Here table.tasks rs) (ap (λ n. get_or table.tasks n (task_of x)) e ∙ next_is) (here_get table.tasks rs (task_of x) (omega (arith, e)))

-- a search among the lower cores tells whether a core that is empty is spare
pub spare_from : (core : ℕ) (before : List Placed) → on_core core before ≡ [] → (told : Bool)
    → MatchBool told ((k : ℕ) × (k < length (range_with_len 1 (core - 1))) × HoldsAt (λ n. on_core n before ≡ []) (range_with_len 1 (core - 1)) k)
    (AllWithin (λ n. on_core n before ≡ [] → ⊥) (range_with_len 1 (core - 1)) 0 (length (range_with_len 1 (core - 1))))
    → Decides told (Spare core before)
spare_from core before empty true found = (
  λ e. record {
    lower = 1 + found.0;
    low = omega arith;
    below = omega (arith, found.1, length-range_with_len 1 (core - 1));
    lower_empty = subst (λ n. on_core n before ≡ []) (get_or-range_with_len 1 (core - 1) found.0 0 (omega (arith, found.1, length-range_with_len 1 (core - 1)))) (found.2 0);
    empty = empty;
  },
  λ spare. refl,
)
spare_from core before empty false none = (
  λ e. cc,
  λ spare.
      let at : spare.lower - 1 < core - 1 = omega (arith, spare.low, spare.below) in
      let is : spare.lower ≡ get_or (range_with_len 1 (core - 1)) (spare.lower - 1) 0 = omega (arith, get_or-range_with_len 1 (core - 1) (spare.lower - 1) 0 at, spare.low) in
      absurd (none (spare.lower - 1) 0 (omega arith) (omega (arith, at, length-range_with_len 1 (core - 1))) (subst (λ n. on_core n before ≡ []) is spare.lower_empty)),
)

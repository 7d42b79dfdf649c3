-- The ranges of a task as facts, and how much its blocks and its cuts can add up to. Assumes nothing.
use Rattle.std.proofs.Common.{◌≡◌, ℕ, zero, suc, ◌+◌, ◌-◌, ◌*◌, ◌<◌, ◌≤◌, Bool, true, false, leb, List, [], ◌∷◌, length, get_or, sum, sym, refl, ap, ◌∙◌, subst, arith}
use Rattle.std.specs.List.{AllByRecursion}
use Rattle.std.proofs.ByRecursion.{All-get_or}
use Rattle.std.proofs.lemmas.List.{length-map, get_or-map}
use Rattle.std.proofs.lemmas.List.Recursion.{is_sum_by}
use Rattle.std.proofs.lemmas.Bool.Decides.{nat_tests}
use Rattle.std.proofs.lemmas.Bool.{and_parts, leb-true}
use Rattle.tasks.specs.Tasks.{Task, Table, between, every, in_range, table_rules}
use Rattle.tasks.specs.Cuts.{cost_at, cut_cost, total}
use Rattle.tasks.specs.Stored.{task_of, tasks_of}
use Rattle.tasks.specs.declared.task.Task.{Task as Stored}
use Rattle.tasks.proofs.Rules.{rules_are}

-- the blocks and the points of a task in range
pub record Ranges (bs ps : List ℕ) : Type 0 where
  pub some : 1 ≤ length bs
  pub few : length bs ≤ 16
  pub fewer : length ps + 1 ≡ length bs
  pub lengths : AllByRecursion (λ n. n ≤ 1000000) bs
  pub costs : AllByRecursion (λ n. n ≤ 1000000) ps

between_high : (low high n : ℕ) → between low high n ≡ true → n ≤ high
between_high low high n h = leb-true n high (and_parts (leb low n) (leb n high) h).1

-- what a test shows of each element
pub every_true : {X : Type 0} (P : X → Type 0) (test : X → Bool) → ((x : X) → test x ≡ true → P x) → (xs : List X) → every test xs ≡ true → AllByRecursion P xs
every_true P test shows [] h = tt
every_true P test shows (x ∷ xs) h =
    let hs = and_parts (test x) (every test xs) h in
    (shows x hs.0, every_true P test shows xs hs.1)

every_high : (low high : ℕ) (ns : List ℕ) → every (between low high) ns ≡ true → AllByRecursion (λ n. n ≤ high) ns
every_high low high = every_true (λ n. n ≤ high) (between low high) (between_high low high)

pub ranges : (t : Task) → in_range t ≡ true → Ranges t.blocks t.points
ranges t h = record {
  some = grind (arith, nat_tests);
  few = grind (arith, nat_tests);
  fewer = grind (arith, nat_tests);
  lengths = every_high 1 1000000 t.blocks (grind (arith, nat_tests));
  costs = every_high 0 1000000 t.points (grind (arith, nat_tests));
}

-- of lists that are those of the task
pub ranges_at : (t : Task) (bs ps : List ℕ) → bs ≡ t.blocks → ps ≡ t.points → in_range t ≡ true → Ranges bs ps
ranges_at t bs ps d e h = subst (λ (xs : List ℕ). Ranges xs ps) (sym d) (subst (λ (xs : List ℕ). Ranges t.blocks xs) (sym e) (ranges t h))

pub first_block : {bs ps : List ℕ} → Ranges bs ps → get_or bs 0 0 ≤ 1000000
first_block {bs} {ps} r = All-get_or (λ n. n ≤ 1000000) bs 0 0 r.some r.lengths

module _ {bs ps : List ℕ} (r : Ranges bs ps) (j : ℕ) (h : j < length ps) where
  -- point j, and the block after it
  pub in_blocks : j + 1 < length bs
  in_blocks = omega (arith, r.fewer)

  pub cost_at_lem : get_or ps j 0 ≤ 1000000
  cost_at_lem = All-get_or (λ n. n ≤ 1000000) ps j 0 h r.costs

  pub block_after : get_or bs (j + 1) 0 ≤ 1000000
  block_after = All-get_or (λ n. n ≤ 1000000) bs (j + 1) 0 in_blocks r.lengths

-- the point before place `from`, and the block there
pub point_before : {bs ps : List ℕ} → Ranges bs ps → (from : ℕ) → 0 < from → from ≤ length ps → (get_or ps (from - 1) 0 ≤ 1000000) × (get_or bs from 0 ≤ 1000000)
point_before {bs} {ps} r from some place =
    (All-get_or (λ n. n ≤ 1000000) ps (from - 1) 0 (omega arith) r.costs, All-get_or (λ n. n ≤ 1000000) bs from 0 (omega (arith, r.fewer)) r.lengths)

pub cost_at_most : (ps : List ℕ) (cuts : List Bool) → AllByRecursion (λ n. n ≤ 1000000) ps → cost_at ps cuts ≤ 1000000 * length ps
cost_at_most [] cuts a = omega arith
cost_at_most (p ∷ ps) [] a = omega arith
cost_at_most (p ∷ ps) (false ∷ cuts) a = omega (arith, cost_at_most ps cuts a.1)
cost_at_most (p ∷ ps) (true ∷ cuts) a = omega (arith, a.0, cost_at_most ps cuts a.1)

pub total_at_most : (ns : List ℕ) → AllByRecursion (λ n. n ≤ 1000000) ns → total ns ≤ 1000000 * length ns
total_at_most [] a = omega arith
total_at_most (n ∷ ns) a = omega (arith, a.0, total_at_most ns a.1)

-- whatever the flags, the cuts of a task in range cost at most fifteen million
pub cut_cost_bound : (t : Task) (cuts : List Bool) → in_range t ≡ true → cut_cost t cuts ≤ 15000000
cut_cost_bound t cuts h =
    let r = ranges t h in
    omega (arith, cost_at_most t.points cuts r.costs, r.few, r.fewer)

pub total_sum : (ns : List ℕ) → total ns ≡ sum ns
total_sum = is_sum_by total (λ n. n) refl (λ _ _. refl)

pub total_bound : (t : Task) → in_range t ≡ true → total t.blocks ≤ 16000000
total_bound t h =
    let r = ranges t h in
    omega (arith, total_at_most t.blocks r.lengths, r.few)

every_get_d : {X : Type 0} (test : X → Bool) (xs : List X) (i : ℕ) (d : X) → i < length xs → every test xs ≡ true → test (get_or xs i d) ≡ true
every_get_d test [] i d h e = absurd (omega arith)
every_get_d test (x ∷ xs) zero d h e = (and_parts (test x) (every test xs) e).0
every_get_d test (x ∷ xs) (suc i) d h e = every_get_d test xs i d (omega arith) (and_parts (test x) (every test xs) e).1

-- each task that a table stores is in range
pub stored_in_range : (table : Table) (ts : List Stored) (i : ℕ) (x : Stored) → table_rules table ≡ true → tasks_of ts ≡ table.tasks → i < length ts → x ≡ get_or ts i x → in_range (task_of x) ≡ true
stored_in_range table ts i x rules are h is =
    let each : every in_range (tasks_of ts) ≡ true = ap (every in_range) are ∙ (rules_are table rules).ranges in
    let at = every_get_d in_range (tasks_of ts) i (task_of x) (omega (arith, length-map ts task_of)) each in
    ap (λ t. in_range (task_of t)) is ∙ sym (ap in_range (get_or-map task_of ts i x (task_of x) h)) ∙ at

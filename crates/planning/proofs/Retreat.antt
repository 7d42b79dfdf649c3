-- The next core, and back to the tasks before where every core has been tried: each turn of `advance`. Assumes nothing but the laws of the test.
use Rattle.std.proofs.Common.{◌≡◌, ℕ, ◌+◌, ◌-◌, ◌<◌, ◌≤◌, List, [], ◌∷◌, ◌++◌, map, length, get_or, Option, ap, ◌∙◌, arith, length-append}
use Rattle.std.proofs.lemmas.List.{map-append}
use Rattle.bounded.specs.Lists.{list_of}
use Rattle.tasks.specs.Tasks.{Task}
use Rattle.coretests.specs.declared.entry.Entry.{Entry}
use Rattle.plans.specs.declared.types.Placed.{Placed}
use Rattle.plans.specs.Plans.{cores}
use Rattle.optimality.specs.Tests.{Laws}
use Rattle.optimality.proofs.Steps.{Here, here_get}
use Rattle.planning.specs.declared.types.Search.{Search}
use Rattle.planning.specs.Walk.{Over, StandsAt, left, steps_left, table_in, rows_in}
use Rattle.planning.proofs.Moves.{back_price, back_core, move_back, back_fewer}

-- any task: a lookup within a table never gives it
abbrev some_task : Task
some_task = record { id = 0; period = 0; deadline = 0; blocks = []; points = [] }

-- the search without its last task, which goes to its next core
pub record Back (accepts : List Entry → Type 0) (limit : List Entry → ℕ → Option ℕ) {C : Type 0} (s : Search C) (placed : List Placed) (last : Placed) : Type 0 where
  pub price : last.overhead ≤ s.cost
  pub core : last.row.core ≤ (table_in s).cores
  pub stands : Over accepts limit (table_in s) (map (λ p. p.row) placed) placed (last.row.core + 1) (s.cost - last.overhead) s.best
  pub fewer : left (table_in s).cores (length (table_in s).tasks) (cores (map (λ p. p.row) placed)) (last.row.core + 1) < steps_left s.core s

pub back : {accepts : List Entry → Type 0} {limit : List Entry → ℕ → Option ℕ} (laws : Laws accepts limit) {C : Type 0} (s : Search C) → StandsAt accepts limit s.core s → (table_in s).cores < s.core
    → (placed : List Placed) (last : Placed) → list_of s.placed ≡ placed ++ last ∷ [] → Back accepts limit s placed last
back laws s stands used placed last ps =
    let table = table_in s in
    let rows = map (λ p. p.row) placed in
    let rs : rows_in s ≡ rows ++ last.row ∷ [] = ap (map (λ p. p.row)) ps ∙ map-append (λ p. p.row) placed (last ∷ []) in
    let long : length (rows_in s) ≡ length rows + 1 = ap length rs ∙ length-append rows (last.row ∷ []) in
    let t = get_or table.tasks (length rows) some_task in
    let here : Here table.tasks rows t = here_get table.tasks rows some_task (omega (arith, long, stands.short)) in
    record {
      price = back_price laws table (rows_in s) (list_of s.placed) s.core s.cost s.best stands used rows last.row placed last rs ps t here;
      core = back_core laws table (rows_in s) (list_of s.placed) s.core s.cost s.best stands used rows last.row placed last rs ps t here;
      stands = move_back laws table (rows_in s) (list_of s.placed) s.core s.cost s.best stands used rows last.row placed last rs ps t here;
      fewer = back_fewer laws table (rows_in s) (list_of s.placed) s.core s.cost s.best stands used rows last.row placed last rs ps t here;
    }

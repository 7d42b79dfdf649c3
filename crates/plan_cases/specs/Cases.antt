-- The worked cases of planning, under one statement.
-- Tasks are given in table order: period, deadline, blocks and the costs of the points. The plan has one flag for each point.
use Rattle.std.specs.Prelude.{◌≡◌, ℕ, Bool, true, false, List, [], ◌∷◌, Option}
use Rattle.tasks.specs.Tasks.{Task, Table, table_rules}
use Rattle.coretests.specs.declared.entry.Entry.{Entry}
use Rattle.coretests.specs.Edf.{EdfAccepts, edf_limit}
use Rattle.coretests.specs.FixedPriority.{FixedAccepts, fixed_limit}
use Rattle.coretests.specs.Layers.{CapAccepts, cap_limit, HandoverAccepts, handover_limit}
use Rattle.plans.specs.declared.types.Row.{Row}
use Rattle.plans.specs.Plans.{Lawful, Choice, cost}

-- a task, its id first
abbrev pub task : ℕ → ℕ → ℕ → List ℕ → List ℕ → Task
task id period deadline blocks points = record { id = id; period = period; deadline = deadline; blocks = blocks; points = points }

abbrev pub on_cores : ℕ → List Task → Table
on_cores n tasks = record { cores = n; tasks = tasks }

-- the row of a task on the core, with its flags
abbrev pub on : ℕ → List Bool → Row
on core cuts = record { core = core; cuts = cuts }

-- the table keeps the rules of every table; under the test it has a lawful plan; the rows are the one that is chosen, at this cost
pub record PlanIs (accepts : List Entry → Type 0) (limit : List Entry → ℕ → Option ℕ) (table : Table) (n : ℕ) (rows : List Row) : Type 0 where
  pub rules : table_rules table ≡ true
  pub choice : Choice accepts limit table rows
  pub costs : cost table rows ≡ n

-- the table keeps the rules of every table, and no plan of it is lawful under the test
pub record NoPlan (accepts : List Entry → Type 0) (limit : List Entry → ℕ → Option ℕ) (table : Table) : Type 0 where
  pub rules : table_rules table ≡ true
  pub none : (rows : List Row) → Lawful accepts limit table rows → ⊥

-- the urgent task of several cases: 20/4, one block of 1
abbrev pub urgent : Task
urgent = task 1 20 4 (1 ∷ []) []

pub record WorkedCases : Type 0 where
  -- at t = 4 one tick of four is asked, so that the longest region is 3
  pub region_that_just_fits : PlanIs EdfAccepts edf_limit (on_cores 1 (urgent ∷ task 2 10 10 (3 ∷ []) [] ∷ [])) 0 (on 1 [] ∷ on 1 [] ∷ [])
  -- 4 > 3, and there is no point to cut
  pub region_one_too_long : NoPlan EdfAccepts edf_limit (on_cores 1 (urgent ∷ task 2 10 10 (4 ∷ []) [] ∷ []))
  -- regions 3 and 1 + 1; the weight is 20 / 10
  pub cut_that_pays : PlanIs EdfAccepts edf_limit (on_cores 1 (urgent ∷ task 2 10 10 (3 ∷ 1 ∷ []) (1 ∷ []) ∷ [])) 2 (on 1 [] ∷ on 1 (true ∷ []) ∷ [])
  -- cut: regions 1 and 3 + 1; uncut: 4
  pub cost_falls_on_the_later_region : NoPlan EdfAccepts edf_limit (on_cores 1 (urgent ∷ task 2 10 10 (1 ∷ 3 ∷ []) (1 ∷ []) ∷ []))
  -- the demand at t = 6 is 7
  pub overrun_after_the_largest_deadline : NoPlan EdfAccepts edf_limit (on_cores 1 (task 1 2 2 (1 ∷ []) [] ∷ task 2 3 3 (1 ∷ 1 ∷ []) (0 ∷ []) ∷ []))
  -- one core does not hold; alone, nothing bounds a region
  pub theSameOnTwoCores :
      PlanIs EdfAccepts edf_limit (on_cores 2 (task 1 2 2 (1 ∷ []) [] ∷ task 2 3 3 (1 ∷ 1 ∷ []) (0 ∷ []) ∷ [])) 0 (on 1 [] ∷ on 2 (false ∷ []) ∷ [])
  -- the longest region is 2; the demand at t = 12 is 12
  pub fullCore :
      PlanIs EdfAccepts edf_limit (on_cores 1 (task 1 4 4 (2 ∷ []) [] ∷ task 2 6 6 (2 ∷ 1 ∷ []) (0 ∷ []) ∷ [])) 0 (on 1 [] ∷ on 1 (true ∷ []) ∷ [])
  -- the second entry has no tolerance
  pub full_core_fixed_priority : NoPlan FixedAccepts fixed_limit (on_cores 1 (task 1 4 4 (2 ∷ []) [] ∷ task 2 6 6 (2 ∷ 1 ∷ []) (0 ∷ []) ∷ []))
  -- no t from 4 to 3, so that nothing bounds the second region
  pub equal_deadlines : PlanIs EdfAccepts edf_limit (on_cores 1 (task 1 10 4 (2 ∷ []) [] ∷ task 2 10 4 (2 ∷ []) [] ∷ [])) 0 (on 1 [] ∷ on 1 [] ∷ [])
  -- a load of 2 leaves 2, less 1 is 1; 3 > 1
  pub handover : NoPlan (HandoverAccepts 1 EdfAccepts) (handover_limit 1 edf_limit) (on_cores 1 (urgent ∷ task 2 10 10 (3 ∷ []) [] ∷ []))
  -- the longest region is 2 in place of 3
  pub cap :
      PlanIs (CapAccepts EdfAccepts) (cap_limit 2 edf_limit) (on_cores 1 (urgent ∷ task 2 10 10 (2 ∷ 1 ∷ []) (0 ∷ []) ∷ [])) 0 (on 1 [] ∷ on 1 (true ∷ []) ∷ [])

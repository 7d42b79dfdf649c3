-- Tasks and tables of tasks: their ranges, their order, and where one more task goes.
use Rattle.std.specs.Prelude.{ℕ, ◌+◌, ◌/◌, Bool, true, cond, not, ◌&&◌, List, [], ◌∷◌, map, length, ◌==◌, nat_le}
use Rattle.std.specs.List.{list_all, list_any}
use Rattle.span.specs.Spans.{span_of}

-- A task is released at most once a period, and is due `deadline` ticks after its release.
-- It runs its blocks in order; point j lies between block j and block j + 1, and has the cost of an interruption there.
pub record Task : Type 0 where
  pub id : ℕ
  pub period : ℕ
  pub deadline : ℕ
  pub blocks : List ℕ
  pub points : List ℕ

-- A cabinet's cores, and the tasks that are to run on them; the place of a task counts from 1.
pub record Table : Type 0 where
  pub cores : ℕ
  pub tasks : List Task

-- the number lies between the bounds
abbrev pub between : ℕ → ℕ → ℕ → Bool
between low high n = nat_le low n && nat_le n high

-- each element passes the test
abbrev pub every : {X : Type 0} → (X → Bool) → List X → Bool
every test xs = list_all test xs

-- 1 to 16 blocks, and exactly one point fewer
abbrev pub points_match : Task → Bool
points_match t = between 1 16 (length t.blocks) && length t.points + 1 == length t.blocks

-- every value of the task is in its range
abbrev pub in_range : Task → Bool
in_range t =
    between 1 9999999 t.id
    && (between 1 1000000 t.period
    && (between 1 t.period t.deadline
    && (points_match t
    && (every (between 1 1000000) t.blocks
    && every (between 0 1000000) t.points))))

-- some task has the id
abbrev pub has_id : ℕ → List Task → Bool
has_id n ts = list_any (λ t. t.id == n) ts

-- no id twice
abbrev pub distinct : List Task → Bool
distinct [] = true
distinct (t ∷ ts) = not (has_id t.id ts) && distinct ts

-- each deadline is no earlier than d, and than those before it
abbrev pub ordered_from : ℕ → List Task → Bool
ordered_from d [] = true
ordered_from d (t ∷ ts) = nat_le d t.deadline && ordered_from t.deadline ts

-- in order of deadline
abbrev pub ordered : List Task → Bool
ordered ts = ordered_from 0 ts

-- the periods of the tasks
abbrev pub periods : List Task → List ℕ
periods ts = map (λ t. t.period) ts

-- how many jobs of the task a span has room for
abbrev pub weight : Table → Task → ℕ
weight table t = span_of (periods table.tasks) / t.period

-- What every draft and every sealed table keeps:
-- 1 to 8 cores, at most 24 tasks, each in range, no id twice, in order of deadline, and a span of at most 1,000,000.
abbrev pub table_rules : Table → Bool
table_rules table =
    between 1 8 table.cores
    && (nat_le (length table.tasks) 24
    && (every in_range table.tasks
    && (distinct table.tasks
    && (ordered table.tasks
    && nat_le (span_of (periods table.tasks)) 1000000))))

-- the tasks with x put in after all those whose deadline is not later
abbrev pub inserted : Task → List Task → List Task
inserted x [] = x ∷ []
inserted x (t ∷ ts) = cond (nat_le t.deadline x.deadline) (t ∷ inserted x ts) (x ∷ t ∷ ts)

-- the table with one more task
abbrev pub with_task : Table → Task → Table
with_task table x = record { cores = table.cores; tasks = inserted x table.tasks }

-- a table of no task
abbrev pub empty_on : ℕ → Table
empty_on cores = record { cores = cores; tasks = [] }

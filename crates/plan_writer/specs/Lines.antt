-- The lines that tell a plan, byte for byte.
use Rattle.std.specs.Prelude.{ℕ, ◌+◌, Bool, true, false, List, [], ◌∷◌, ◌++◌, codes, decimal}
use Rattle.span.specs.Spans.{span_of}
use Rattle.tasks.specs.Tasks.{Task, Table, periods}
use Rattle.cuts.specs.Allowed.{flags_at}
use Rattle.plans.specs.declared.types.Row.{Row}
use Rattle.plans.specs.Plans.{cost}

-- the numbers of the cuts among these flags, the first of which is that of point n: each after a space
abbrev pub cut_numbers : ℕ → List Bool → List ℕ
cut_numbers n [] = []
cut_numbers n (false ∷ flags) = cut_numbers (n + 1) flags
cut_numbers n (true ∷ flags) = (codes " " ++ decimal n) ++ cut_numbers (n + 1) flags

-- a task's core, its id, and the numbers of its cuts, rising
abbrev pub row_line : Task → Row → List ℕ
row_line t r =
    codes "(on " ++ decimal r.core
    ++ codes " (id " ++ decimal t.id
    ++ codes ") (cuts" ++ cut_numbers 1 (flags_at t.points r.cuts) ++ codes "))\n"

-- one line a task, in table order
abbrev pub row_lines : List Task → List Row → List ℕ
row_lines ts [] = []
row_lines [] (r ∷ rs) = []
row_lines (t ∷ ts) (r ∷ rs) = row_line t r ++ row_lines ts rs

-- the cores and the span of a table, and the cost of a plan of it
abbrev pub plan_line : Table → List Row → List ℕ
plan_line table rows =
    codes "(plan (cores " ++ decimal table.cores
    ++ codes ") (span " ++ decimal (span_of (periods table.tasks))
    ++ codes ") (cost " ++ decimal (cost table rows) ++ codes "))\n"

-- a plan of a table
abbrev pub plan_text : Table → List Row → List ℕ
plan_text table rows = plan_line table rows ++ row_lines table.tasks rows

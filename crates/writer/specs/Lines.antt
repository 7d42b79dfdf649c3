-- The lines that are written, byte for byte.
use Rattle.std.specs.Prelude.{ℕ, List, ◌++◌, length, codes, decimal}
use Rattle.span.specs.Spans.{span_of}
use Rattle.tasks.specs.declared.refusal.Refusal.{Refusal}
use Rattle.tasks.specs.Refusals.{told}
use Rattle.tasks.specs.Tasks.{Table, periods}

-- a refusal's number, and the place that it names
abbrev pub refusal_line : Refusal → List ℕ
refusal_line y =
    codes "(refused (number " ++ decimal (told y).number
    ++ codes ") (at " ++ decimal (told y).at ++ codes "))\n"

-- how many cores a table has, how long its span is, and how many tasks it has
abbrev pub table_line : Table → List ℕ
table_line t =
    codes "(table (cores " ++ decimal t.cores
    ++ codes ") (span " ++ decimal (span_of (periods t.tasks))
    ++ codes ") (tasks " ++ decimal (length t.tasks) ++ codes "))\n"

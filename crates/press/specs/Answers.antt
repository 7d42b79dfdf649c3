-- What a program prints for a sheet.
use Rattle.std.specs.Prelude.{◌≡◌, ℕ, ◌⊎◌, List, [], Result}
use Rattle.tasks.specs.declared.refusal.Refusal.{Refusal}
use Rattle.tasks.specs.Tasks.{Table}
use Rattle.sheet.specs.Sheets.{Granted, SheetRefused}
use Rattle.writer.specs.Lines.{refusal_line, table_line}
use Rattle.writer.specs.Texts.{WritesOnly}

-- the line tells the table that the sheet describes, or why the sheet is refused
abbrev pub LineFor : List ℕ → List ℕ → Type 0
LineFor bs line = ((table : Table) × Granted bs table [] × (line ≡ table_line table)) ⊎ ((y : Refusal) × SheetRefused bs y × (line ≡ refusal_line y))

-- the line that tells of the sheet is written: there is no other
abbrev pub Answers : List ℕ → List ℕ → Result ℕ Refusal → List ℕ → Type 0
Answers bs = WritesOnly (LineFor bs)

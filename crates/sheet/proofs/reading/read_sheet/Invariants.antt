use Rattle.std.proofs.Common.{◌-◌, length}
use Rattle.tasks.specs.Tables.{drafted}
use Rattle.sheet.proofs.Granting.{Reached}
use Rattle.sheet.proofs.reading.read_sheet.Given as goal

abbrev pub invariant-loop-reader : goal.invariant-loop-reader
invariant-loop-reader l = Reached l.sheet l.reader (drafted l.draft)

abbrev pub decreases-loop-reader : goal.decreases-loop-reader
decreases-loop-reader l = length l.reader.sheet.now - l.reader.position

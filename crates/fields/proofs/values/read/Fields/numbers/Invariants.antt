use Rattle.std.proofs.Common.{length}
use Rattle.reader.specs.Tokens.{rest}
use Rattle.fields.proofs.Counted.{Sofar}
use Rattle.fields.proofs.values.read.Fields.numbers.Given as goal

abbrev pub invariant-loop-held : goal.invariant-loop-held
invariant-loop-held l = Sofar (rest l.initial.self.reader) (rest l.self.reader) l.held

abbrev pub decreases-loop-held : goal.decreases-loop-held
decreases-loop-held l = length (rest l.self.reader)

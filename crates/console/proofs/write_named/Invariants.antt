use Rattle.std.proofs.Common.{ℕ, List}
use Rattle.std.specs.Io.KnownBytes.{Appends}
use Rattle.console.specs.Answers.{GivenBy, NamedAnswers}
use Rattle.console.proofs.write_named.Given as goal

abbrev pub invariant-loop-name : goal.invariant-loop-name
invariant-loop-name g l = record {
  can : (goal.iterator-loop-name g).can_next l.name-iterator;
  finite : (goal.iterator-loop-name g).is_finite l.name-iterator;
  told : (bs : List ℕ) × NamedAnswers (GivenBy (goal.F-post g) l.answer) bs × Appends (g.W.Write.contents l.initial.to) (g.W.Write.contents l.to) bs;
}

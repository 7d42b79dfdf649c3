use Rattle.grammar.proofs.Exactly.{some_outcome, not_both, one_line, one_refusal}
use Rattle.grammar.proofs.outcomes.has_one_outcome.Goals as goal

pub returns : goal.returns
returns c = record { some = some_outcome; never_both = not_both; one_line = one_line; one_fault = one_refusal }

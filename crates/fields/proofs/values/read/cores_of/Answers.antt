use Rattle.std.proofs.Common.{◌∙◌}
use Rattle.fields.proofs.Lines.{sheet_word}
use Rattle.fields.proofs.values.read.cores_of.Goals as goal

pub returns-in_err-opens : goal.returns-in_err-opens
returns-in_err-opens c = rw c.from_residual.ensures (sheet_word _ (λ t h e. c.in_err-opens.ensures t h (c.new-fields.ensures ∙ e)))

use Rattle.std.proofs.lemmas.Bool.Decides.{Decides-eqb}
use Rattle.std.proofs.lemmas.Slice.Eq.{slice_eq-Decides}
use Rattle.fields.proofs.Tokens.{name_none, name_other, name_told}
use Rattle.fields.proofs.values.read.Fields.opens.Goals as goal

pub returns-in_err-letters : goal.returns-in_err-letters
returns-in_err-letters c = rw c.from_residual-in_err-letters.ensures (name_none _ _ _ c.requires c.in_ok-mark.ensures c.in_err-letters.ensures)

pub returns-in_default : goal.returns-in_default
returns-in_default c = name_other _ _ _ c.requires c.in_ok-mark.ensures c.in_ok-letters.ensures c.in_default.not-Word

pub returns : goal.returns
returns c = rw c.then_some.ensures (name_told _ _ _ c.requires c.in_ok-mark.ensures c.in-Word.letters c.in_ok-letters.ensures c.in-Word.is c.eq.result (slice_eq-Decides Decides-eqb _ _ _ c.eq.ensures))

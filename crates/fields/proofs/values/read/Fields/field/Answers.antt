use Rattle.fields.proofs.Pieces.{field_space, field-number, field_close, field_took}
use Rattle.fields.proofs.values.read.Fields.field.Goals as goal

pub returns-in_err-mark : goal.returns-in_err-mark
returns-in_err-mark c = rw c.from_residual-in_err-mark.ensures (field_space _ _ _ c.in_ok-nests.ensures c.in_err-mark.ensures)

pub returns-in_err-n : goal.returns-in_err-n
returns-in_err-n c = rw c.from_residual-in_err-n.ensures (field-number _ _ _ c.in_ok-nests.ensures _ c.in_ok-mark.ensures c.in_err-n.ensures)

pub returns-in_err-mark-2 : goal.returns-in_err-mark-2
returns-in_err-mark-2 c =
    rw c.from_residual-in_err-mark-2.ensures (field_close _ _ _ c.in_ok-nests.ensures _ c.in_ok-mark.ensures _ _ c.in_ok-n.ensures c.in_err-mark-2.ensures)

pub returns : goal.returns
returns c = field_took _ _ _ c.in_ok-nests.ensures _ c.in_ok-mark.ensures _ _ c.in_ok-n.ensures _ c.in_ok-mark-2.ensures

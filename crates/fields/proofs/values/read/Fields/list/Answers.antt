use Rattle.fields.proofs.Pieces.{list_name, list_numbers}
use Rattle.fields.proofs.values.read.Fields.list.Goals as goal

pub returns-in_err-nests : goal.returns-in_err-nests
returns-in_err-nests c = rw c.from_residual.ensures (list_name _ _ c.in_err-nests.ensures)

pub returns : goal.returns
returns c = list_numbers _ _ _ c.in_ok-nests.ensures _ c.numbers.result c.numbers.ensures

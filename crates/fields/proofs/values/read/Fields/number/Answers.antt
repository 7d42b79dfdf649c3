use Rattle.fields.proofs.Tokens.{number_other, number_taken}
use Rattle.fields.proofs.values.read.Fields.number.Goals as goal

pub returns-in-Number : goal.returns-in-Number
returns-in-Number c = number_taken c.in-Number.digits c.number_of.result c.in_ok-digits.ensures c.in-Number.is c.number_of.ensures

pub returns-in_default : goal.returns-in_default
returns-in_default c = number_other c.in_ok-digits.ensures c.in_default.not-Number

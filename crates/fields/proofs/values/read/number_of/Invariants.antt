use Rattle.std.proofs.Common.{◌≡◌, ◌^◌, ◌<◌, drop}
use Rattle.fields.specs.Wanted.{value_from, value}
use Rattle.fields.proofs.values.read.number_of.Given as goal

abbrev pub invariant-loop-digit : goal.invariant-loop-digit
invariant-loop-digit l = (value_from l.value (drop l.digit-index l.digits) ≡ value l.digits) × (l.value < 10 ^ l.digit-index)

use Rattle.std.proofs.Common.{arith}
use Rattle.std.proofs.lemmas.Grind.{common_steps}
use Rattle.span.proofs.Divisors.{gcd_some, gcd_same}
use Rattle.span.proofs.Multiples.{lcm_is}
use Rattle.span.proofs.join.Goals as goal

pub nonzero_div-joined : goal.nonzero_div-joined
nonzero_div-joined c = grind (arith, gcd_some _ _ _ c.gcd.ensures)

pub returns : goal.returns
returns c = grind (arith, common_steps, gcd_same _ _ _ c.gcd.ensures, lcm_is)

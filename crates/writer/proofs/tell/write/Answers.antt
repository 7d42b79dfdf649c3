use Rattle.std.proofs.Common.{arith}
use Rattle.writer.proofs.tell.write.Goals as goal

pub text-requires : goal.text-requires
text-requires g c = omega (arith, g.met.T.Tell.small)

pub copy_into-requires : goal.copy_into-requires
copy_into-requires g c = omega (arith, g.met.T.Tell.small)

use Rattle.machine.specs.declared.types.Call.TheVariants.{Early}
use Rattle.cabinet.specs.Calls.{grant_of}
use Rattle.cabinet.proofs.Reaching.{keeps}
use Rattle.cabinet.proofs.cabinet.Cabinet.early.Goals as goal

pub invariant_of-self : goal.invariant_of-self
invariant_of-self c = record { reached = keeps c.args.self.now c.early.new.self (Early c.args.core) (grant_of c.early.result) c.early.ensures }

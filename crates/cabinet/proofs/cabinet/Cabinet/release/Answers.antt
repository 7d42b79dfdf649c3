use Rattle.machine.specs.declared.types.Call.TheVariants.{Release}
use Rattle.cabinet.specs.Calls.{grant_of}
use Rattle.cabinet.proofs.Reaching.{keeps}
use Rattle.cabinet.proofs.cabinet.Cabinet.release.Goals as goal

pub invariant_of-self : goal.invariant_of-self
invariant_of-self c = record { reached = keeps c.args.self.now c.release.new.self (Release c.args.place) (grant_of c.release.result) c.release.ensures }

use Rattle.machine.specs.Machine.{reply_of}
use Rattle.cabinet.proofs.Reaching.{keeps}
use Rattle.cabinet.proofs.cabinet.Cabinet.answer.Goals as goal

pub invariant_of-self : goal.invariant_of-self
invariant_of-self c = record { reached = keeps c.args.self.now c.answer.new.self c.args.call (reply_of c.answer.result) c.answer.ensures }

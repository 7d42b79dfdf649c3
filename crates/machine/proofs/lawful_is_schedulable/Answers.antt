use Rattle.machine.proofs.Plans.{lawful_is_schedulable_lem}
use Rattle.machine.proofs.lawful_is_schedulable.Goals as goal

pub returns : goal.returns
returns c = lawful_is_schedulable_lem

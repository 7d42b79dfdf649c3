use Rattle.machine.proofs.Simulation.{machine_never_late}
use Rattle.machine.proofs.never_late.Goals as goal

pub returns : goal.returns
returns c = machine_never_late

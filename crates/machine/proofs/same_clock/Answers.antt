use Rattle.machine.proofs.Simulation.{same_clock_lem}
use Rattle.machine.proofs.same_clock.Goals as goal

pub returns : goal.returns
returns c = same_clock_lem

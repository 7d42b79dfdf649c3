use Rattle.machine.proofs.Simulation.{reading_agrees_lem}
use Rattle.machine.proofs.reading_agrees.Goals as goal

pub returns : goal.returns
returns c = reading_agrees_lem

use Rattle.optimality.proofs.Places.{fitting_is_by_place_lem}
use Rattle.optimality.proofs.fitting_is_by_place.Goals as goal

pub returns : goal.returns
returns c = fitting_is_by_place_lem

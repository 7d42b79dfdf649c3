-- What the cut selection answers.
use Rattle.std.specs.Prelude.{◌≡◌, ℕ, Bool, List, Some, None, Option}
use Rattle.tasks.specs.Tasks.{Task}
use Rattle.tasks.specs.Cuts.{cut_cost}
use Rattle.cuts.specs.declared.types.Cuts.{Cuts}
use Rattle.cuts.specs.Allowed.{Allowed, LeastCuts}

-- the chosen cuts with their cost, or none where the limit allows no cuts at all
abbrev pub BestCuts : Option ℕ → Task → Option Cuts → Type 0
BestCuts limit t None = (cuts : List Bool) → Allowed limit t cuts → ⊥
BestCuts limit t (Some c) = (c.cost ≡ cut_cost t c.flags) × LeastCuts limit t c.flags

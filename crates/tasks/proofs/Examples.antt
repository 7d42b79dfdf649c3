-- Small tasks, and what cuts make of them. Assumes nothing.
use Rattle.std.proofs.Common.{◌≡◌, ℕ, true, false, List, [], ◌∷◌, refl}
use Rattle.tasks.specs.Tasks.{Task}
use Rattle.tasks.specs.Cuts.{regions, cut_cost, load}

abbrev of : List ℕ → List ℕ → Task
of blocks points = record { id = 1; period = 10; deadline = 10; blocks = blocks; points = points }

-- without a cut there is one region
uncut : regions (of (3 ∷ 1 ∷ []) (1 ∷ [])) [] ≡ 4 ∷ []
uncut = refl

-- the cost of a cut belongs to the region after it
cost-after : regions (of (3 ∷ 1 ∷ []) (1 ∷ [])) (true ∷ []) ≡ 3 ∷ 2 ∷ []
cost-after = refl

cost-after_short : regions (of (1 ∷ 3 ∷ []) (1 ∷ [])) (true ∷ []) ≡ 1 ∷ 4 ∷ []
cost-after_short = refl

second_cut : regions (of (5 ∷ 4 ∷ 3 ∷ []) (7 ∷ 2 ∷ [])) (false ∷ true ∷ []) ≡ 9 ∷ 5 ∷ []
second_cut = refl

load_and_cost : load (of (5 ∷ 4 ∷ 3 ∷ []) (7 ∷ 2 ∷ [])) (true ∷ true ∷ []) ≡ 21
load_and_cost = refl

cost_of_cuts : cut_cost (of (5 ∷ 4 ∷ 3 ∷ []) (7 ∷ 2 ∷ [])) (false ∷ true ∷ []) ≡ 2
cost_of_cuts = refl

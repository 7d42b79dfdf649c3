-- The regions of a row of blocks.
use Rattle.std.specs.Prelude.{◌≡◌, ℕ, ◌+◌, ◌^◌, ◌<◌, ◌≤◌, Bool, List, [], ◌∷◌, length, IfSome, Some, None, Option}
use Rattle.tasks.specs.Cuts.{regions_from, total}

-- the regions of a row of blocks
abbrev pub regions_of : List ℕ → List ℕ → List Bool → List ℕ
regions_of bs points cuts = elim bs as (λ x. List ℕ) [ [] ↦ [] | b ∷ rest ↦ regions_from b rest points cuts ]

-- the region under way is n long so far; after the last there is none
abbrev pub regions_ahead : Option ℕ → List ℕ → List ℕ → List Bool → List ℕ
regions_ahead None bs ps fs = []
regions_ahead (Some n) bs ps fs = regions_from n bs ps fs

-- each block has its point and its flag, and however they are cut, each region is a number of 32 bits
abbrev pub Fits : Option ℕ → List ℕ → List ℕ → List Bool → Type 0
Fits under_way bs ps fs = IfSome under_way (λ n. (length ps ≡ length bs) × (length bs ≤ length fs) × (n + (total bs + total ps) < 2 ^ 32))

-- Which cuts of a task a limit allows, and which of those are chosen.
use Rattle.std.specs.Prelude.{◌≡◌, ℕ, Bool, true, false, ◌||◌, List, [], ◌∷◌, map, Some, None, Option, nat_le}
use Rattle.std.specs.List.{AllByRecursion}
use Rattle.tasks.specs.Tasks.{Task}
use Rattle.tasks.specs.Cuts.{regions, cut_cost}
use Rattle.coretests.specs.Limits.{AtMost}
use Rattle.cuts.specs.Orders.{NoLater, mark}

-- the flags at the points, one for each; a flag that is missing is no cut
abbrev pub flags_at : List ℕ → List Bool → List Bool
flags_at [] cuts = []
flags_at (p ∷ ps) [] = false ∷ flags_at ps []
flags_at (p ∷ ps) (f ∷ fs) = f ∷ flags_at ps fs

-- a cut at a point that is not there: a flag that is set after those of the points
abbrev pub cut_beyond : List ℕ → List Bool → Bool
cut_beyond ps [] = false
cut_beyond [] (f ∷ fs) = f || cut_beyond [] fs
cut_beyond (p ∷ ps) (f ∷ fs) = cut_beyond ps fs

-- a region of n ticks is no longer than the limit
abbrev pub Within : Option ℕ → ℕ → Type 0
Within limit n = AtMost (Some n) limit

-- the same as a test
abbrev pub within : Option ℕ → ℕ → Bool
within None n = true
within (Some l) n = nat_le n l

-- the cuts are at points of the task, and no region is longer than the limit
pub record Allowed (limit : Option ℕ) (t : Task) (cuts : List Bool) : Type 0 where
  pub at_points : cut_beyond t.points cuts ≡ false
  pub short : AllByRecursion (Within limit) (regions t cuts)

-- What cuts are ranked by: their cost, and then their flags.
-- Where two sets of cuts first differ, the one without the cut there has the region that reaches further.
abbrev pub cut_rank : Task → List Bool → List ℕ
cut_rank t cuts = cut_cost t cuts ∷ map mark (flags_at t.points cuts)

-- the cuts that are chosen under a limit: the cheapest, and of those the ones whose first region reaches furthest, then the second, and so on
pub record LeastCuts (limit : Option ℕ) (t : Task) (cuts : List Bool) : Type 0 where
  pub allowed : Allowed limit t cuts
  pub least : (others : List Bool) → Allowed limit t others → NoLater (cut_rank t cuts) (cut_rank t others)

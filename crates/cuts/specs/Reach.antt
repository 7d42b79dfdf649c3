-- How far the regions reach, and that the order of flags is the order of reaches.
use Rattle.std.specs.Prelude.{◌≡◌, ℕ, ◌+◌, ◌<◌, Bool, true, false, ◌⊎◌, List, [], ◌∷◌, map, length, Option}
use Rattle.tasks.specs.Tasks.{Task, in_range}
use Rattle.tasks.specs.Cuts.{regions, cut_cost}
use Rattle.cuts.specs.Orders.{NoLater, mark}
use Rattle.cuts.specs.Allowed.{flags_at, Allowed, LeastCuts}

-- the ends of the regions, where k blocks lie before the point of the first flag
abbrev pub reaches_from : ℕ → List Bool → List ℕ
reaches_from k [] = k ∷ []
reaches_from k (false ∷ flags) = reaches_from (k + 1) flags
reaches_from k (true ∷ flags) = k ∷ reaches_from (k + 1) flags

-- for each region in order, the number of blocks up to its end
abbrev pub reaches : Task → List Bool → List ℕ
reaches t cuts = reaches_from 1 (flags_at t.points cuts)

-- where the reaches first differ, the first are further; or they are the same
abbrev pub AsFar : List ℕ → List ℕ → Type 0
AsFar [] [] = Unit {0}
AsFar [] (y ∷ ys) = ⊥
AsFar (x ∷ xs) [] = ⊥
AsFar (x ∷ xs) (y ∷ ys) = (y < x) ⊎ ((x ≡ y) × AsFar xs ys)

-- every region has its reach
abbrev pub OneReachEach : Type 0
OneReachEach = (t : Task) (cuts : List Bool) → in_range t ≡ true → length (reaches t cuts) ≡ length (regions t cuts)

-- by their flags, cuts come no later than others exactly if their first region reaches further, or as far and then the second, and so on
abbrev pub FlagsOrderIsReach : Type 0
FlagsOrderIsReach =
    (t : Task) (cuts others : List Bool)
    → (NoLater (map mark (flags_at t.points cuts)) (map mark (flags_at t.points others)) → AsFar (reaches t cuts) (reaches t others))
    × (AsFar (reaches t cuts) (reaches t others) → NoLater (map mark (flags_at t.points cuts)) (map mark (flags_at t.points others)))

-- the chosen cuts are the cheapest that are allowed, and of equal ones those that reach furthest
abbrev pub ChosenReachFurthest : Type 0
ChosenReachFurthest =
    (limit : Option ℕ) (t : Task) (cuts others : List Bool) → LeastCuts limit t cuts → Allowed limit t others
    → (cut_cost t cuts < cut_cost t others) ⊎ ((cut_cost t cuts ≡ cut_cost t others) × AsFar (reaches t cuts) (reaches t others))

-- Dictionary order.
use Rattle.std.specs.Prelude.{◌≡◌, ℕ, ◌<◌, Bool, true, false, ◌⊎◌, List, [], ◌∷◌}

-- xs comes no later than ys in dictionary order
abbrev pub NoLater : List ℕ → List ℕ → Type 0
NoLater [] ys = Unit {0}
NoLater (x ∷ xs) [] = ⊥
NoLater (x ∷ xs) (y ∷ ys) = (x < y) ⊎ ((x ≡ y) × NoLater xs ys)

-- a flag as a number, so that "no cut" comes before "cut"
abbrev pub mark : Bool → ℕ
mark false = 0
mark true = 1

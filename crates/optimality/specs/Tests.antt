-- The laws of a core test that planning rests on.
use Rattle.std.specs.Prelude.{ℕ, List, [], ◌∷◌, ◌++◌, Option}
use Rattle.coretests.specs.declared.entry.Entry.{Entry}
use Rattle.coretests.specs.Limits.{AtMost}
use Rattle.coretests.specs.Entries.{Lighter}

-- lighter loads keep a list accepted and its limits no shorter, and a list that is accepted is accepted without its last entry
pub record Laws (accepts : List Entry → Type 0) (limit : List Entry → ℕ → Option ℕ) : Type 0 where
  pub lighter : (xs ys : List Entry) → Lighter xs ys → accepts xs → accepts ys
  pub longer : (xs ys : List Entry) (d : ℕ) → Lighter xs ys → AtMost (limit xs d) (limit ys d)
  pub fewer : (xs : List Entry) (x : Entry) → accepts (xs ++ x ∷ []) → accepts xs

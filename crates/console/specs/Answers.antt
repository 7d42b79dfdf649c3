-- What a function that answers sheets makes of them.
use Rattle.std.specs.Prelude.{◌≡◌, ℕ, List, ◌++◌, take, codes, Ok, Result}
use Rattle.std.specs.List.{AllByRecursion, flat_map}
use denote.Ref.{Bor, MutBor}

module _ {F E : Type 0} (post : F → Bor (List ℕ) → MutBor (List ℕ) → Result ℕ E → MutBor (List ℕ) → Type 0) (f : F) where
  -- the function was called with the sheet, and left the text in the front of its buffer
  pub record Answered (sheet text : List ℕ) : Type 0 where
    pub asked : Bor (List ℕ)
    pub asks : asked.now ≡ sheet
    pub lent : MutBor (List ℕ)
    pub len : ℕ
    pub left : MutBor (List ℕ)
    pub met : post f asked lent (Ok len) left
    pub leaves : take len left.now ≡ text

  -- the text is its answer to some sheet
  abbrev pub GivenBy : List ℕ → Type 0
  GivenBy text = (sheet : List ℕ) × Answered sheet text

-- a name, and the text that is told behind it
abbrev pub named : List ℕ × List ℕ → List ℕ
named line = (line.0 ++ codes ": ") ++ line.1

-- the bytes are texts that were given, each behind a name
pub record NamedAnswers (Given : List ℕ → Type 0) (bs : List ℕ) : Type 0 where
  pub lines : List (List ℕ × List ℕ)
  pub given : AllByRecursion (λ line. Given line.1) lines
  pub all : flat_map named lines ≡ bs

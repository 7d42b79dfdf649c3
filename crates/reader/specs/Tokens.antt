-- What a token is of a sheet.
use Rattle.std.specs.Prelude.{◌≡◌, ℕ, ◌+◌, List, [], ◌∷◌, ◌++◌, length, drop, Ok, Err, Result}
use Rattle.grammar.specs.Kinds.{kind}
use Rattle.grammar.specs.Forms.{Run, Ends, IsLetter, IsDigit}
use Rattle.grammar.specs.declared.kind.Kind.TheVariants as kinds
use Rattle.tasks.specs.declared.refusal.Refusal.{Refusal}
use Rattle.tasks.specs.declared.refusal.Refusal.TheVariants.{ForbiddenByte}
use Rattle.reader.specs.declared.reader.Reader.{Reader}
use Rattle.reader.specs.declared.reader.TokenAt.{TokenAt}
use Rattle.reader.specs.declared.reader.Token.{Token}
use Rattle.reader.specs.declared.reader.Token.TheVariants.{Open, Close, Space, LineFeed, Word, Number}

-- the bytes from the position on
abbrev pub rest : Reader → List ℕ
rest r = drop r.position r.sheet.now

-- the bytes of a token
abbrev pub spells : Token → List ℕ
spells Open = 40 ∷ []
spells Close = 41 ∷ []
spells Space = 32 ∷ []
spells LineFeed = 10 ∷ []
spells (Word w) = w.now
spells (Number n) = n.now

-- a word is all the letters and a number all the digits that stand here
abbrev pub Maximal : Token → List ℕ → Type 0
Maximal Open after = Unit {0}
Maximal Close after = Unit {0}
Maximal Space after = Unit {0}
Maximal LineFeed after = Unit {0}
Maximal (Word w) after = Run IsLetter w.now × Ends IsLetter after
Maximal (Number n) after = Run IsDigit n.now × Ends IsDigit after

-- the reader b is a, on the same sheet, after the bytes bs
pub record Went (a b : Reader) (bs : List ℕ) : Type 0 where
  pub same : b.sheet ≡ a.sheet
  pub to : b.position ≡ a.position + length bs
  pub bytes : rest a ≡ bs ++ rest b

-- the reader b is a after the token t
pub record Past (a : Reader) (t : TokenAt) (b : Reader) : Type 0 where
  pub went : Went a b (spells t.token)
  pub at : t.at ≡ a.position
  pub maximal : Maximal t.token (rest b)

-- nothing is left, or a byte that begins no token
abbrev pub NoToken : List ℕ → Type 0
NoToken [] = Unit {0}
NoToken (c ∷ cs) = kind c ≡ kinds.Other

-- the next token is read, or none begins here and the reader stays
abbrev pub TokenSteps : Reader → Result TokenAt Refusal → Reader → Type 0
TokenSteps a (Ok t) b = Past a t b
TokenSteps a (Err y) b = (b ≡ a) × (y ≡ ForbiddenByte a.position) × NoToken (rest a)

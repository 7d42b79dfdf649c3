-- What reading a piece of a line tells: bs are the bytes before it, and r those that are left.
use Rattle.std.specs.Prelude.{◌≡◌, ℕ, List, [], ◌∷◌, ◌++◌, map, Some, None, Option, ◌≢◌}
use Rattle.bounded.specs.declared.list.Bounded.{Bounded}
use Rattle.grammar.specs.Forms.{renders, Ends, IsLetter, IsDigit, IsNumber}
use Rattle.reader.specs.Tokens.{spells, Maximal, NoToken}
use Rattle.reader.specs.declared.reader.Token.{Token}
use Rattle.reader.specs.declared.reader.Token.TheVariants.{Word, Number}
use Rattle.fields.specs.Wanted.{value, numerals}
use Rattle.fields.specs.Values.{Keeps}

-- The token, as long as it can be, stood first and was passed.
pub record TookToken (bs : List ℕ) (k : Token) (r : List ℕ) : Type 0 where
  pub is : bs ≡ spells k ++ r
  pub maximal : Maximal k r

-- The next token was passed, or none begins here.
abbrev pub TakesToken : List ℕ → Option Token → List ℕ → Type 0
TakesToken bs None r = NoToken bs
TakesToken bs (Some k) r = TookToken bs k r

-- The token is one that is always the same byte.
abbrev pub IsMark : Token → Type 0
IsMark (Word w) = ⊥
IsMark (Number n) = ⊥
IsMark _ = Unit {0}

-- The text stood first and was passed, or it did not.
abbrev pub Passes : List ℕ → List ℕ → Option (Unit {0}) → List ℕ → Type 0
Passes text bs None r = (t : List ℕ) → bs ≢ text ++ t
Passes text bs (Some u) r = bs ≡ text ++ r

-- The text, which ends with a word, stood first and was passed; or it did not with the whole of that word.
abbrev pub PassesWord : List ℕ → List ℕ → Option (Unit {0}) → List ℕ → Type 0
PassesWord text bs None r = (t : List ℕ) → Ends IsLetter t → bs ≢ text ++ t
PassesWord text bs (Some u) r = bs ≡ text ++ r

-- The end of a form and of a line is all that there was, or it was not.
abbrev pub Finishes : List ℕ → Option (Unit {0}) → Type 0
Finishes bs None = bs ≡ 41 ∷ 10 ∷ [] → ⊥
Finishes bs (Some u) = bs ≡ 41 ∷ 10 ∷ []

-- v is the value of the digits.
abbrev pub HasValue : List ℕ → ℕ → Type 0
HasValue ds v = v ≡ value ds

-- The digits are a lawful number, of which v is the value, or they are none.
abbrev pub ValueOf : List ℕ → Option ℕ → Type 0
ValueOf ds None = IsNumber ds → ⊥
ValueOf ds (Some v) = IsNumber ds × HasValue ds v

-- A lawful number, all digits that stood first, was passed, and v is its value.
pub record TookNumber (bs : List ℕ) (v : ℕ) (r : List ℕ) : Type 0 where
  pub digits : List ℕ
  pub lawful : IsNumber digits
  pub ends : Ends IsDigit r
  pub is : bs ≡ digits ++ r
  pub means : HasValue digits v

-- The digits that stood first are passed as a number, or they are no lawful number.
abbrev pub TakesNumber : List ℕ → Option ℕ → List ℕ → Type 0
TakesNumber bs None r = (ds t : List ℕ) → IsNumber ds → Ends IsDigit t → bs ≢ ds ++ t
TakesNumber bs (Some v) r = TookNumber bs v r

-- A lawful x, as it is written, stood first and was passed, and v means it.
-- Any lawful y that the bytes begin with leaves the same bytes.
pub record Took {X V : Type 0} (writes : X → List ℕ) (Is : X → Type 0) (Means : X → V → Type 0) (bs : List ℕ) (v : V) (r : List ℕ) : Type 0 where
  pub of : X
  pub lawful : Is of
  pub is : bs ≡ writes of ++ r
  pub means : Means of v
  pub forced : (y : X) (t : List ℕ) → Is y → bs ≡ writes y ++ t → r ≡ t

-- A lawful x stood first and was passed, or none stands first.
abbrev pub Takes : {X V : Type 0} → (X → List ℕ) → (X → Type 0) → (X → V → Type 0) → List ℕ → Option V → List ℕ → Type 0
Takes {X} writes Is Means bs None r = (y : X) (t : List ℕ) → Is y → bs ≢ writes y ++ t
Takes writes Is Means bs (Some v) r = Took writes Is Means bs v r

-- k keeps the values of the numbers.
abbrev pub HasValues : List (List ℕ) → Bounded ℕ 17 → Type 0
HasValues ns k = Keeps k (map value ns)

-- A field of one number.
abbrev pub field_bytes : List ℕ → List ℕ → List ℕ
field_bytes name ds = (32 ∷ 40 ∷ name) ++ 32 ∷ (ds ++ 41 ∷ [])

-- Any count of numbers, each after a space, and the end of their form.
abbrev pub numbers_bytes : List (List ℕ) → List ℕ
numbers_bytes ns = renders (numerals ns) ++ 41 ∷ []

-- A field of any count of numbers.
abbrev pub list_bytes : List ℕ → List (List ℕ) → List ℕ
list_bytes name ns = (32 ∷ 40 ∷ name) ++ numbers_bytes ns

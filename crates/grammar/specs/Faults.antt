-- What each fault says of the bytes from the start of a line on, in terms of the lawful lines alone.
use Rattle.std.specs.Prelude.{◌≡◌, ℕ, ◌+◌, List, [], ◌∷◌, ◌++◌, length, ◌==◌, count_by}
use Rattle.std.specs.List.{All}
use Rattle.grammar.specs.Forms.{Form, Lawful, line, IsDigit}

-- what a line can be refused for by the grammar, and the offset at which it is
pub data Fault : Type 0 where
  forbidden : ℕ → Fault
  too_long : ℕ → Fault
  too_deep : ℕ → Fault

-- some lawful line begins with the bytes
pub record Begins (p : List ℕ) : Type 0 where
  pub tree : Form
  pub lawful : Lawful tree 4
  pub left : List ℕ
  pub is : line tree ≡ p ++ left

-- the bytes are a lawful line
pub record Whole (p : List ℕ) : Type 0 where
  pub tree : Form
  pub lawful : Lawful tree 4
  pub is : line tree ≡ p

-- a lawful line stands first
pub record Leads (bs : List ℕ) : Type 0 where
  pub tree : Form
  pub lawful : Lawful tree 4
  pub tail : List ℕ
  pub is : bs ≡ line tree ++ tail

-- a P stands first
abbrev pub First : (ℕ → Type 0) → List ℕ → Type 0
First P [] = ⊥
First P (c ∷ q) = P c

-- no lawful line goes on from p with the first byte of q, if there is one
abbrev pub Stops : List ℕ → List ℕ → Type 0
Stops p [] = Unit {0}
Stops p (c ∷ q) = Begins (p ++ c ∷ []) → ⊥

-- The bytes are p and then q. Lawful lines begin with p, p is none of them,
-- and none of them goes on with the first byte of q.
pub record Halts (bs p q : List ℕ) : Type 0 where
  pub split : bs ≡ p ++ q
  pub begins : Begins p
  pub part : Whole p → ⊥
  pub stops : Stops p q

-- In a lawful line an item stands after each space, and nowhere else.
-- So ds are the first seven digits of a number, and q begins with another.
pub record Eighth (p q u ds : List ℕ) : Type 0 where
  pub cut : p ≡ (u ++ 32 ∷ []) ++ ds
  pub seven : length ds ≡ 7
  pub digits : All IsDigit ds
  pub next : First IsDigit q

-- an item stands next in the innermost of four open forms, and q opens one more
pub record Fifth (p q u : List ℕ) : Type 0 where
  pub cut : p ≡ u ++ 32 ∷ []
  pub four : count_by (λ c. c == 40) p ≡ count_by (λ c. c == 41) p + 4
  pub next : First (λ c. c ≡ 40) q

-- The byte at o, or the end, is one with which no lawful line goes on; it is no eighth digit and opens no fifth level.
pub record Forbidden (bs : List ℕ) (o : ℕ) : Type 0 where
  pub p : List ℕ
  pub q : List ℕ
  pub halts : Halts bs p q
  pub here : o ≡ length p
  pub not_long : (u ds : List ℕ) → Eighth p q u ds → ⊥
  pub not_deep : (u : List ℕ) → Fifth p q u → ⊥

-- No lawful line goes on, for want of an eighth digit; o is the place of the first.
pub record TooLong (bs : List ℕ) (o : ℕ) : Type 0 where
  pub p : List ℕ
  pub q : List ℕ
  pub u : List ℕ
  pub ds : List ℕ
  pub halts : Halts bs p q
  pub long : Eighth p q u ds
  pub here : o ≡ length (u ++ 32 ∷ [])

-- No lawful line goes on, for want of a fifth level; o is the place of the bracket.
pub record TooDeep (bs : List ℕ) (o : ℕ) : Type 0 where
  pub p : List ℕ
  pub q : List ℕ
  pub u : List ℕ
  pub halts : Halts bs p q
  pub deep : Fifth p q u
  pub here : o ≡ length p

-- the fault is that of the line that stands at `start`
pub record AtOffset (P : ℕ → Type 0) (start at : ℕ) : Type 0 where
  pub o : ℕ
  pub is : at ≡ start + o
  pub fact : P o

-- the bytes of a line that stands at `start` have the fault
abbrev pub Faulty : ℕ → List ℕ → Fault → Type 0
Faulty start bs (forbidden at) = AtOffset (Forbidden bs) start at
Faulty start bs (too_long at) = AtOffset (TooLong bs) start at
Faulty start bs (too_deep at) = AtOffset (TooDeep bs) start at

-- A small automaton over the bytes of a line: a device of the proofs, not the rule, which is in Forms and Faults.
-- Contracts of the inner functions of a reader speak of its runs; the proofs tie them to lawful lines.
use Rattle.std.specs.Prelude.{ℕ, ◌+◌, ◌-◌, cond, List, [], ◌∷◌, Some, None, Option, ◌==◌, nat_lt}
use Rattle.grammar.specs.Kinds.{kind}
use Rattle.grammar.specs.declared.kind.Kind.{Kind}
use Rattle.grammar.specs.declared.kind.Kind.TheVariants as kinds
use Rattle.grammar.specs.Faults.{Fault, forbidden, too_long, too_deep}

-- what the bytes of a line so far tell of the next one
pub data State : Type 0 where
  -- no byte yet
  Start : State
  -- in the word of the innermost of d open forms, after n letters
  Word : ℕ → ℕ → State
  -- after a space, with d forms open
  Item : ℕ → State
  -- after the number 0
  Zero : ℕ → State
  -- after n digits, the first of them not 0
  Digits : ℕ → ℕ → State
  -- after a form that is closed, with d forms open round it
  Closed : ℕ → State
  -- after the line feed
  Done : State

-- after a word or an item, in the innermost of some open forms
abbrev pub after : ℕ → Kind → Option State
after d kinds.Close = cond (d == 0) None (Some (Closed (d - 1)))
after d kinds.Space = cond (d == 0) None (Some (Item d))
after d kinds.LineFeed = cond (d == 0) (Some Done) None
after d _ = None

-- the step of each state at a kind of byte

abbrev pub starts : Kind → Option State
starts kinds.Open = Some (Word 1 0)
starts _ = None

abbrev pub spelt : ℕ → ℕ → Kind → Option State
spelt d n kinds.Close = cond (n == 0) None (after d kinds.Close)
spelt d n kinds.Space = cond (n == 0) None (after d kinds.Space)
spelt d n kinds.LineFeed = cond (n == 0) None (after d kinds.LineFeed)
spelt d n kinds.Letter = cond (nat_lt n 8) (Some (Word d (n + 1))) None
spelt d n _ = None

abbrev pub item_at : ℕ → Kind → Option State
item_at d kinds.Open = cond (nat_lt d 4) (Some (Word (d + 1) 0)) None
item_at d kinds.Zero = Some (Zero d)
item_at d kinds.Digit = Some (Digits d 1)
item_at d _ = None

abbrev pub counted : ℕ → ℕ → Kind → Option State
counted d n kinds.Zero = cond (nat_lt n 7) (Some (Digits d (n + 1))) None
counted d n kinds.Digit = cond (nat_lt n 7) (Some (Digits d (n + 1))) None
counted d n k = after d k

abbrev pub goes : State → Kind → Option State
goes Start k = starts k
goes (Word d n) k = spelt d n k
goes (Item d) k = item_at d k
goes (Zero d) k = after d k
goes (Digits d n) k = counted d n k
goes (Closed d) k = after d k
goes Done k = None

-- what follows, where the step before gave a state
abbrev pub from : Option State → List ℕ → Option State
from None cs = None
from (Some s) [] = Some s
from (Some s) (c ∷ cs) = from (goes s (kind c)) cs

abbrev pub run : State → List ℕ → Option State
run s cs = from (Some s) cs

-- how a byte is refused that has no step, at its offset

abbrev pub item_fault : Kind → ℕ → Fault
item_fault kinds.Open at = too_deep at
item_fault _ at = forbidden at

abbrev pub digit_fault : ℕ → Kind → ℕ → Fault
digit_fault n kinds.Zero at = too_long (at - n)
digit_fault n kinds.Digit at = too_long (at - n)
digit_fault n _ at = forbidden at

abbrev pub fault_of : State → Kind → ℕ → Fault
fault_of (Item d) k at = item_fault k at
fault_of (Digits d n) k at = digit_fault n k at
fault_of _ k at = forbidden at

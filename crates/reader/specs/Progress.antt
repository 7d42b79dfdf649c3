-- How far a form is read, told by the states of the grammar's automaton.
use Rattle.std.specs.Prelude.{◌≡◌, ℕ, ◌+◌, ◌-◌, cond, ◌&&◌, List, [], ◌∷◌, ◌++◌, length, Some, None, Ok, Err, Option, Result, ◌==◌, ◌≢◌, nat_lt, slice_index}
use Rattle.grammar.specs.Kinds.{kind}
use Rattle.grammar.specs.Faults.{forbidden}
use Rattle.grammar.specs.States.{State, Word, Item, Closed, Done, goes, run, fault_of}
use Rattle.grammar.specs.declared.kind.Kind.{Kind}
use Rattle.grammar.specs.declared.kind.Kind.TheVariants as kinds
use Rattle.tasks.specs.declared.refusal.Refusal.{Refusal}
use Rattle.tasks.specs.declared.refusal.Refusal.TheVariants.{ForbiddenByte, LongNumber}
use Rattle.reader.specs.declared.reader.Reader.{Reader}
use Rattle.reader.specs.Tokens.{rest, Went}
use Rattle.reader.specs.Lines.{refusal_for}

-- the refusal that a result holds
abbrev pub refused : {X : Type 0} → Result X Refusal → Option Refusal
refused (Ok x) = None
refused (Err y) = Some y

-- a word of more than eight letters is refused at the ninth
abbrev pub word_refusal : List ℕ → ℕ → Option Refusal
word_refusal w at = cond (nat_lt 8 (length w)) (Some (ForbiddenByte (at + 8))) None

-- a number that goes on after a leading 0 is refused at the second digit, any other of more than seven digits at the first
abbrev pub number_refusal : List ℕ → ℕ → Option Refusal
number_refusal ds at = cond (nat_lt 1 (length ds) && slice_index ds 0 == 48) (Some (ForbiddenByte (at + 1))) (cond (nat_lt 7 (length ds)) (Some (LongNumber at)) None)

-- the refusal is that of the first of the bytes, in a state that has no step for it, or of their end
abbrev pub Tells : State → List ℕ → ℕ → Refusal → Type 0
Tells t [] at y = y ≡ refusal_for (forbidden at)
Tells t (c ∷ q) at y = (goes t (kind c) ≡ None) × (y ≡ refusal_for (fault_of t (kind c) at))

-- the run over the bytes from a state goes no further than over their front
pub record Stuck (s : State) (bs : List ℕ) (start : ℕ) (y : Refusal) : Type 0 where
  pub front : List ℕ
  pub left : List ℕ
  pub state : State
  pub split : bs ≡ front ++ left
  pub runs : run s front ≡ Some state
  pub undone : state ≡ Done → ⊥
  pub told : Tells state left (start + length front) y

-- a byte of the kind is forbidden in the state
abbrev pub Forbids : State → Kind → Type 0
Forbids s k = (goes s k ≡ None) × ((at : ℕ) → fault_of s k at ≡ forbidden at)

-- the first of the bytes is a space, a ')' or forbidden
abbrev pub OthersForbidden : State → List ℕ → Type 0
OthersForbidden s [] = Unit {0}
OthersForbidden s (c ∷ q) = (kind c ≢ kinds.Space) → (kind c ≢ kinds.Close) → Forbids s (kind c)

-- in the innermost of d open forms a word or an item has ended, and the bytes stand next
pub record Settled (s : State) (d : ℕ) (after : List ℕ) : Type 0 where
  pub space : goes s kinds.Space ≡ Some (Item d)
  pub close : goes s kinds.Close ≡ Some (Closed (d - 1))
  pub others : OthersForbidden s after

-- from its word on, a form that is one of d open ones was read to its end
pub record ReadForm (d : ℕ) (a b : Reader) : Type 0 where
  pub bs : List ℕ
  pub went : Went a b bs
  pub runs : run (Word d 0) bs ≡ Some (Closed (d - 1))

-- an item in d open forms was read to its end
pub record ReadItem (d : ℕ) (a b : Reader) : Type 0 where
  pub bs : List ℕ
  pub went : Went a b bs
  pub state : State
  pub runs : run (Item d) bs ≡ Some state
  pub settled : Settled state d (rest b)

-- some items in d open forms were read, each after one space
pub record ReadItems (d : ℕ) (a b : Reader) : Type 0 where
  pub bs : List ℕ
  pub went : Went a b bs
  pub runs : (s : State) → Settled s d (rest a) → (t : State) × (run s bs ≡ Some t) × Settled t d (rest b)

-- the rest of a form is read, or refused where the run from its word on is stuck
abbrev pub FormSteps : ℕ → Reader → Result (Unit {0}) Refusal → Reader → Type 0
FormSteps d a (Ok u) b = ReadForm d a b
FormSteps d a (Err y) b = (b.sheet ≡ a.sheet) × Stuck (Word d 0) (rest a) a.position y

-- an item is read, or refused where the run from a space on is stuck
abbrev pub ItemSteps : ℕ → Reader → Result (Unit {0}) Refusal → Reader → Type 0
ItemSteps d a (Ok u) b = ReadItem d a b
ItemSteps d a (Err y) b = (b.sheet ≡ a.sheet) × Stuck (Item d) (rest a) a.position y

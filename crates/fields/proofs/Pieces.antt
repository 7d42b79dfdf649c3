-- Fields and the end of a line, by the pieces that they are read in. Assumes nothing.
use Rattle.std.proofs.Common.{◌≡◌, ℕ, List, ◌∷◌, ◌++◌, Some, None, Option, sym, ap, ◌∙◌, append_assoc, arith}
use mathlib.Core.List.{append_cancel_left}
use Rattle.bounded.specs.declared.list.Bounded.{Bounded}
use Rattle.grammar.specs.Forms.{Ends, IsLetter, IsDigit, IsNumber}
use Rattle.grammar.proofs.Same.{rest_same}
use Rattle.fields.specs.Wanted.{AreNumbers}
use Rattle.fields.specs.Pieces.{TookNumber, Took, Takes, HasValue, HasValues, numbers_bytes, field_bytes, list_bytes}
use Rattle.fields.proofs.Counted.{number_forced, numbers_start}

-- no such name stands first
abbrev NoName : List ℕ → List ℕ → Type 0
NoName text bs = (t : List ℕ) → Ends IsLetter t → bs ≡ text ++ t → ⊥

-- a field of any count of numbers

-- no such field stands first
abbrev pub NoList : List ℕ → List ℕ → Type 0
NoList name bs = (ns : List (List ℕ)) (t : List ℕ) → AreNumbers ns → bs ≡ list_bytes name ns ++ t → ⊥

pub list_name : (name bs : List ℕ) → NoName (32 ∷ 40 ∷ name) bs → NoList name bs
list_name name bs never ns t l e = never (numbers_bytes ns ++ t) (numbers_start IsLetter (λ h. omega (arith, h.0)) (λ h. omega (arith, h.0)) ns t) (e ∙ append_assoc (32 ∷ 40 ∷ name) (numbers_bytes ns) t)

module _ (name bs m : List ℕ) (named : bs ≡ (32 ∷ 40 ∷ name) ++ m) where
  listed : (ns : List (List ℕ)) (t : List ℕ) → bs ≡ list_bytes name ns ++ t → m ≡ numbers_bytes ns ++ t
  listed ns t e = append_cancel_left (32 ∷ 40 ∷ name) m (numbers_bytes ns ++ t) (sym named ∙ e ∙ append_assoc (32 ∷ 40 ∷ name) (numbers_bytes ns) t)

  pub list_numbers : (r : List ℕ) (o : Option (Bounded ℕ 17)) → Takes numbers_bytes AreNumbers HasValues m o r → Takes (list_bytes name) AreNumbers HasValues bs o r
  list_numbers r None never = λ ns t l e. never ns t l (listed ns t e)
  list_numbers r (Some k) n =
      record {
        of = n.of;
        lawful = n.lawful;
        is = named ∙ ap (λ l. (32 ∷ 40 ∷ name) ++ l) n.is ∙ sym (append_assoc (32 ∷ 40 ∷ name) (numbers_bytes n.of) r);
        means = n.means;
        forced = λ ns t l e. n.forced ns t l (listed ns t e);
      }

-- a field of one number

-- no such field stands first
abbrev pub NoField : List ℕ → List ℕ → Type 0
NoField name bs = (ds t : List ℕ) → IsNumber ds → bs ≡ field_bytes name ds ++ t → ⊥

module _ (name bs m : List ℕ) (named : bs ≡ (32 ∷ 40 ∷ name) ++ m) where
  inside : (ds t : List ℕ) → bs ≡ field_bytes name ds ++ t → m ≡ 32 ∷ (ds ++ 41 ∷ t)
  inside ds t e = append_cancel_left (32 ∷ 40 ∷ name) m (32 ∷ (ds ++ 41 ∷ t)) (sym named ∙ e ∙ simp append_assoc)

  pub field_space : ((t : List ℕ) → m ≡ 32 ∷ t → ⊥) → NoField name bs
  field_space never ds t l e = never (ds ++ 41 ∷ t) (inside ds t e)

  module _ (m' : List ℕ) (space : m ≡ 32 ∷ m') where
    within : (ds t : List ℕ) → bs ≡ field_bytes name ds ++ t → m' ≡ ds ++ 41 ∷ t
    within ds t e = rest_same (sym space ∙ inside ds t e)

    pub field-number : ((ds t : List ℕ) → IsNumber ds → Ends IsDigit t → m' ≡ ds ++ t → ⊥) → NoField name bs
    field-number never ds t l e = never ds (41 ∷ t) l (λ h. omega (arith, h.0)) (within ds t e)

    module _ (v : ℕ) (r : List ℕ) (n : TookNumber m' v r) where
      at_end : (ds t : List ℕ) → IsNumber ds → bs ≡ field_bytes name ds ++ t → r ≡ 41 ∷ t
      at_end ds t l e = number_forced n ds (41 ∷ t) l (λ h. omega (arith, h.0)) (within ds t e)

      pub field_close : ((t : List ℕ) → r ≡ 41 ∷ t → ⊥) → NoField name bs
      field_close never ds t l e = never t (at_end ds t l e)

      pub field_took : (r' : List ℕ) → r ≡ 41 ∷ r' → Took (field_bytes name) IsNumber HasValue bs v r'
      field_took r' c =
          record {
            of = n.digits;
            lawful = n.lawful;
            is = named ∙ ap (λ l. (32 ∷ 40 ∷ name) ++ l) (space ∙ ap (λ l. 32 ∷ l) (n.is ∙ ap (λ l. n.digits ++ l) c)) ∙ simp append_assoc;
            means = n.means;
            forced = λ ds t l e. rest_same (sym c ∙ at_end ds t l e);
          }

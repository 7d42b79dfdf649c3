-- What the next token tells of the bytes that it stands in. Assumes nothing.
use Rattle.std.proofs.Common.{◌≡◌, ℕ, Bool, true, false, List, [], ◌∷◌, ◌++◌, Some, None, Option, sym, refl, ap, ◌∙◌, subst, inl, inr, arith, Bor}
use Rattle.std.specs.Bool.{Decides, then_some}
use Rattle.std.proofs.lemmas.List.Elements.{All-head}
use Rattle.grammar.specs.Kinds.{kind}
use Rattle.grammar.specs.Forms.{Run, Ends, IsLetter, IsDigit, IsWord, IsNumber}
use Rattle.grammar.specs.declared.kind.Kind.{Kind}
use Rattle.grammar.specs.declared.kind.Kind.TheVariants as kinds
use Rattle.grammar.proofs.Steps.{letter_kind, figure_kind}
use Rattle.grammar.proofs.Same.{rest_same, head_same, runs_same, number-run}
use Rattle.reader.specs.Tokens.{spells, NoToken}
use Rattle.reader.specs.declared.reader.Token.{Token}
use Rattle.reader.specs.declared.reader.Token.TheVariants as tokens
use Rattle.reader.proofs.Stalled.{IsKind, heads_all}
use Rattle.fields.specs.Pieces.{IsMark, TookToken, Passes, PassesWord, ValueOf, TakesNumber}

-- the token that a byte of the kind begins
abbrev BegunBy : Kind → Token → Type 0
BegunBy kinds.Open k = k ≡ tokens.Open
BegunBy kinds.Close k = k ≡ tokens.Close
BegunBy kinds.Space k = k ≡ tokens.Space
BegunBy kinds.LineFeed k = k ≡ tokens.LineFeed
BegunBy kinds.Letter k = (w : Bor (List ℕ)) × (k ≡ tokens.Word w)
BegunBy kinds.Zero k = (n : Bor (List ℕ)) × (k ≡ tokens.Number n)
BegunBy kinds.Digit k = (n : Bor (List ℕ)) × (k ≡ tokens.Number n)
BegunBy kinds.Other k = ⊥

begun : (k : Token) (q : Kind) → IsKind k q → BegunBy q k
begun (tokens.Word w) q e = subst (λ x. BegunBy x (tokens.Word w)) (sym e) (w, refl)
begun (tokens.Number n) q (inl e) = subst (λ x. BegunBy x (tokens.Number n)) (sym e) (n, refl)
begun (tokens.Number n) q (inr e) = subst (λ x. BegunBy x (tokens.Number n)) (sym e) (n, refl)
begun k q e = subst (λ x. BegunBy x k) (sym e) refl

-- the first byte tells which token is next
pub next_token : {k : Token} {bs r : List ℕ} (c : ℕ) (s : List ℕ) → TookToken bs k r → bs ≡ c ∷ s → BegunBy (kind c) k
next_token {k = k} {r = r} c s t e =
    let h = heads_all k r t.maximal in
    begun k (kind c) (subst (λ x. IsKind k (kind x)) (head_same (sym h.is ∙ sym t.is ∙ e)) h.kindly)

pub token_is : {k : Token} {bs r : List ℕ} → TookToken bs k r → (j : Token) → k ≡ j → bs ≡ spells j ++ r
token_is {r = r} t j e = t.is ∙ ap (λ x. spells x ++ r) e

-- a mark is passed just where it is the token that stood first
pub mark_passed : {k : Token} {bs r : List ℕ} → TookToken bs k r → (w : Token) → IsMark w → (b : Bool) → (b ≡ true → k ≡ w) → (b ≡ false → k ≡ w → ⊥) → Passes (spells w) bs (then_some b tt) r
mark_passed t w m true same other = token_is t w (same refl)
mark_passed t tokens.Open m false same other = λ s e. other refl (next_token 40 s t e)
mark_passed t tokens.Close m false same other = λ s e. other refl (next_token 41 s t e)
mark_passed t tokens.Space m false same other = λ s e. other refl (next_token 32 s t e)
mark_passed t tokens.LineFeed m false same other = λ s e. other refl (next_token 10 s t e)
mark_passed t w m false same other = absurd m

-- where no token begins, no byte stands first that begins one
pub no_mark : {bs : List ℕ} → NoToken bs → (c : ℕ) → (kind c ≡ kinds.Other → ⊥) → (t : List ℕ) → bs ≡ c ∷ t → ⊥
no_mark n c h t e = h (subst NoToken e n)

first_of : (P : ℕ → Type 0) (w : List ℕ) → Run P w → (c : ℕ) × (cs : List ℕ) × (w ≡ c ∷ cs) × P c
first_of P [] r = absurd (omega (arith, r.0))
first_of P (c ∷ cs) r = (c, cs, refl, All-head P c cs r.1)

-- the name after a '('

module _ (name bs m : List ℕ) (word : IsWord name) (opens : bs ≡ 40 ∷ m) where
  abbrev Unnamed : Type 0
  Unnamed = (t : List ℕ) → Ends IsLetter t → bs ≡ (40 ∷ name) ++ t → ⊥

  here : (t : List ℕ) → bs ≡ (40 ∷ name) ++ t → m ≡ name ++ t
  here t e = rest_same (sym opens ∙ e)

  pub name_none : NoToken m → Unnamed
  name_none n t h e =
      let f = first_of IsLetter name (word.0, word.2) in
      let other : kind f.0 ≡ kinds.Other = subst NoToken (here t e ∙ ap (λ l. l ++ t) f.2) n in
      let letter = letter_kind f.0 f.3 in
      cc

  pub name_other : {k : Token} {r : List ℕ} → TookToken m k r → ((w : Bor (List ℕ)) → k ≡ tokens.Word w → ⊥) → Unnamed
  name_other {k} {r} told never t h e =
      let f = first_of IsLetter name (word.0, word.2) in
      let w = subst (λ q. BegunBy q k) (letter_kind f.0 f.3) (next_token f.0 (f.1 ++ t) told (here t e ∙ ap (λ l. l ++ t) f.2)) in
      never w.0 w.1

  -- whether the word that stood first is the name
  pub name_told : {k : Token} {r : List ℕ} (w : Bor (List ℕ)) → TookToken m k r → k ≡ tokens.Word w → (b : Bool) → Decides b (w.now ≡ name) → PassesWord (40 ∷ name) bs (then_some b tt) r
  name_told {k} {r} w told is true says = opens ∙ ap (λ l. 40 ∷ l) ((subst (λ j. TookToken m j r) is told).is ∙ ap (λ l. l ++ r) (says.0 refl))
  name_told {k} {r} w told is false says =
      λ t h e.
      let n = subst (λ j. TookToken m j r) is told in
      let never : false ≡ true = says.1 (runs_same IsLetter w.now name r t n.maximal.0.1 word.2 n.maximal.1 h (sym n.is ∙ here t e)).0 in
      cc

-- a number

pub number_other : {k : Token} {bs r : List ℕ} → TookToken bs k r → ((n : Bor (List ℕ)) → k ≡ tokens.Number n → ⊥) → (ds t : List ℕ) → IsNumber ds → Ends IsDigit t → bs ≡ ds ++ t → ⊥
number_other {k} {bs} {r} told never ds t l h e =
    let f = first_of IsDigit ds (number-run ds l) in
    let b = next_token f.0 (f.1 ++ t) told (e ∙ ap (λ x. x ++ t) f.2) in
    elim (figure_kind f.0 f.3) [ inl q ↦ let n = subst (λ q. BegunBy q k) q b in never n.0 n.1 | inr q ↦ let n = subst (λ q. BegunBy q k) q b in never n.0 n.1 ]

pub number_taken : {k : Token} {bs r : List ℕ} (n : Bor (List ℕ)) (o : Option ℕ) → TookToken bs k r → k ≡ tokens.Number n → ValueOf n.now o → TakesNumber bs o r
number_taken {k} {bs} {r} n None told is never =
    λ ds t l h e.
    let k = subst (λ j. TookToken bs j r) is told in
    never (subst IsNumber (sym (runs_same IsDigit n.now ds r t k.maximal.0.1 (number-run ds l).1 k.maximal.1 h (sym k.is ∙ e)).0) l)
number_taken {k} {bs} {r} n (Some v) told is m =
    let k = subst (λ j. TookToken bs j r) is told in
    record { digits = n.now; lawful = m.0; ends = k.maximal.1; is = k.is; means = m.1 }

-- Readers that go on, and where a run from a state is stuck. Assumes nothing.
use Rattle.std.proofs.Common.{◌≡◌, ℕ, ◌+◌, ◌⊎◌, List, [], ◌∷◌, ◌++◌, length, Some, sym, refl, ap, ◌∙◌, subst, inl, inr, append_assoc, arith, length-append, Bor}
use Rattle.std.proofs.lemmas.List.Elements.{All-head}
use Rattle.grammar.specs.Kinds.{kind}
use Rattle.grammar.specs.Forms.{IsLetter, IsDigit, Run}
use Rattle.grammar.specs.States.{State, Start, Word, Item, Closed, Done, from, run}
use Rattle.grammar.specs.declared.kind.Kind.{Kind}
use Rattle.grammar.specs.declared.kind.Kind.TheVariants as kinds
use Rattle.grammar.proofs.Steps.{letter_kind, figure_kind}
use Rattle.grammar.proofs.Runs.{from-append}
use Rattle.tasks.specs.declared.refusal.Refusal.{Refusal}
use Rattle.tasks.specs.declared.refusal.Refusal.TheVariants.{ForbiddenByte}
use Rattle.reader.specs.Tokens.{rest, spells, Maximal, Went, Past, NoToken}
use Rattle.reader.specs.Lines.{refusal_for}
use Rattle.reader.specs.Progress.{Tells, Stuck, Forbids}
use Rattle.reader.specs.declared.reader.Reader.{Reader}
use Rattle.reader.specs.declared.reader.TokenAt.{TokenAt}
use Rattle.reader.specs.declared.reader.Token.{Token}
use Rattle.reader.specs.declared.reader.Token.TheVariants as tokens

-- ways on a sheet

pub went_none : (a : Reader) → Went a a []
went_none a = record { same = refl; to = omega arith; bytes = refl }

pub went_then : {a b e : Reader} {xs ys : List ℕ} → Went a b xs → Went b e ys → Went a e (xs ++ ys)
went_then {a} {b} {e} {xs} {ys} p q =
    record {
      same = q.same ∙ p.same;
      to = omega (arith, p.to, q.to, length-append xs ys);
      bytes = p.bytes ∙ ap (λ l. xs ++ l) q.bytes ∙ sym (append_assoc xs ys (rest e));
    }

pub went_token : {a b : Reader} {t : TokenAt} {k : Token} → Past a t b → t.token ≡ k → Went a b (spells k)
went_token {a} {b} p is = subst (Went a b) (ap spells is) p.went

-- runs one after another

pub run_then : (s t : State) (p q : List ℕ) → run s p ≡ Some t → run s (p ++ q) ≡ run t q
run_then s t p q e = from-append (Some s) p q ∙ ap (λ o. from o q) e

-- what is stuck after some bytes is stuck with them
pub stuck_later : {a b : Reader} {bs : List ℕ} (s t : State) {y : Refusal} → Went a b bs → run s bs ≡ Some t → Stuck t (rest b) b.position y → Stuck s (rest a) a.position y
stuck_later {a} {b} {bs} s t {y} w e k =
    let place : b.position + length k.front ≡ a.position + length (bs ++ k.front) = omega (arith, w.to, length-append bs k.front) in
    record {
      front = bs ++ k.front;
      left = k.left;
      state = k.state;
      split = w.bytes ∙ ap (λ l. bs ++ l) k.split ∙ sym (append_assoc bs k.front k.left);
      runs = run_then s t bs k.front e ∙ k.runs;
      undone = k.undone;
      told = subst (λ n. Tells k.state k.left n y) place k.told;
    }

pub stuck_here : (t : State) (bs : List ℕ) (start : ℕ) {y : Refusal} → (t ≡ Done → ⊥) → Tells t bs start y → Stuck t bs start y
stuck_here t bs start {y} n told =
    let place : start ≡ start + 0 = omega arith in
    record { front = []; left = bs; state = t; split = refl; runs = refl; undone = n; told = subst (λ k. Tells t bs k y) place told }

-- where no token begins

other_forbidden : (s : State) → Forbids s kinds.Other
other_forbidden Start = (refl, λ at. refl)
other_forbidden s = (refl, λ at. refl)

pub forbids_at : (s : State) {k j : Kind} → k ≡ j → Forbids s j → Forbids s k
forbids_at s e f = subst (Forbids s) (sym e) f

pub tells_forbidden : (s : State) (c : ℕ) (q : List ℕ) (at : ℕ) → Forbids s (kind c) → Tells s (c ∷ q) at (ForbiddenByte at)
tells_forbidden s c q at f = (f.0, sym (ap refusal_for (f.1 at)))

tells_strange : (s : State) (bs : List ℕ) (at : ℕ) → NoToken bs → Tells s bs at (ForbiddenByte at)
tells_strange s [] at h = refl
tells_strange s (c ∷ q) at h = tells_forbidden s c q at (forbids_at s h (other_forbidden s))

pub stuck_strange : (s : State) (a : Reader) (y : Refusal) → (s ≡ Done → ⊥) → y ≡ ForbiddenByte a.position → NoToken (rest a) → Stuck s (rest a) a.position y
stuck_strange s a y n is h = stuck_here s (rest a) a.position n (subst (Tells s (rest a) a.position) (sym is) (tells_strange s (rest a) a.position h))

-- the kind of a token's first byte
abbrev pub IsKind : Token → Kind → Type 0
IsKind tokens.Open k = k ≡ kinds.Open
IsKind tokens.Close k = k ≡ kinds.Close
IsKind tokens.Space k = k ≡ kinds.Space
IsKind tokens.LineFeed k = k ≡ kinds.LineFeed
IsKind (tokens.Word w) k = k ≡ kinds.Letter
IsKind (tokens.Number n) k = (k ≡ kinds.Zero) ⊎ (k ≡ kinds.Digit)

-- a token's first byte, and its kind
pub record Heads (t : Token) (bs : List ℕ) : Type 0 where
  pub first : ℕ
  pub others : List ℕ
  pub is : bs ≡ first ∷ others
  pub kindly : IsKind t (kind first)

heads_run : (P : ℕ → Type 0) (t : Token) (w after : List ℕ) → Run P w → ((c : ℕ) → P c → IsKind t (kind c)) → Heads t (w ++ after)
heads_run P t [] after r f = absurd (omega (arith, r.0))
heads_run P t (c ∷ w) after r f = record { first = c; others = w ++ after; is = refl; kindly = f c (All-head P c w r.1) }

pub heads_all : (t : Token) (after : List ℕ) → Maximal t after → Heads t (spells t ++ after)
heads_all tokens.Open after m = record { first = 40; others = after; is = refl; kindly = refl }
heads_all tokens.Close after m = record { first = 41; others = after; is = refl; kindly = refl }
heads_all tokens.Space after m = record { first = 32; others = after; is = refl; kindly = refl }
heads_all tokens.LineFeed after m = record { first = 10; others = after; is = refl; kindly = refl }
heads_all (tokens.Word w) after m = heads_run IsLetter (tokens.Word w) w.now after m.0 letter_kind
heads_all (tokens.Number n) after m = heads_run IsDigit (tokens.Number n) n.now after m.0 figure_kind

pub heads : {a b : Reader} {t : TokenAt} → Past a t b → Heads t.token (rest a)
heads {a} {b} {t} p = subst (Heads t.token) (sym p.went.bytes) (heads_all t.token (rest b) p.maximal)

-- a token whose first byte is forbidden is refused at its offset
pub stuck_token : (s : State) {a b : Reader} {t : TokenAt} → (s ≡ Done → ⊥) → (p : Past a t b) → Forbids s (kind (heads p).first) → Stuck s (rest a) a.position (ForbiddenByte t.at)
stuck_token s {a} {b} {t} n p f =
    let h = heads p in
    stuck_here s (rest a) a.position n (subst (λ l. Tells s l a.position (ForbiddenByte t.at)) (sym h.is) (subst (λ k. Tells s (h.first ∷ h.others) k (ForbiddenByte t.at)) p.at (tells_forbidden s h.first h.others t.at f)))

-- tokens that a state forbids

pub start_forbids : (t : Token) (k : Kind) → (t ≡ tokens.Open → ⊥) → IsKind t k → Forbids Start k
start_forbids tokens.Open k h e = absurd (h refl)
start_forbids (tokens.Number n) k h (inl e) = forbids_at Start e (refl, λ at. refl)
start_forbids (tokens.Number n) k h (inr e) = forbids_at Start e (refl, λ at. refl)
start_forbids t k h e = forbids_at Start e (refl, λ at. refl)

pub word_forbids : (d : ℕ) (t : Token) (k : Kind) → ((x : Bor (List ℕ)) → t ≡ tokens.Word x → ⊥) → IsKind t k → Forbids (Word d 0) k
word_forbids d (tokens.Word w) k h e = absurd (h w refl)
word_forbids d (tokens.Number n) k h (inl e) = forbids_at (Word d 0) e (refl, λ at. refl)
word_forbids d (tokens.Number n) k h (inr e) = forbids_at (Word d 0) e (refl, λ at. refl)
word_forbids d t k h e = forbids_at (Word d 0) e (refl, λ at. refl)

pub item_forbids : (d : ℕ) (t : Token) (k : Kind) → ((x : Bor (List ℕ)) → t ≡ tokens.Number x → ⊥) → (t ≡ tokens.Open → ⊥) → IsKind t k → Forbids (Item d) k
item_forbids d tokens.Open k h g e = absurd (g refl)
item_forbids d (tokens.Number n) k h g e = absurd (h n refl)
item_forbids d t k h g e = forbids_at (Item d) e (refl, λ at. refl)

pub closed_forbids : (t : Token) (k : Kind) → (t ≡ tokens.LineFeed → ⊥) → IsKind t k → Forbids (Closed 0) k
closed_forbids tokens.LineFeed k h e = absurd (h refl)
closed_forbids (tokens.Number n) k h (inl e) = forbids_at (Closed 0) e (refl, λ at. refl)
closed_forbids (tokens.Number n) k h (inr e) = forbids_at (Closed 0) e (refl, λ at. refl)
closed_forbids t k h e = forbids_at (Closed 0) e (refl, λ at. refl)

-- a token that is no space and no ')' does not begin as one

pub no_space : (t : Token) (k : Kind) → (t ≡ tokens.Space → ⊥) → IsKind t k → k ≡ kinds.Space → ⊥
no_space tokens.Space k h e f = h refl
no_space (tokens.Number n) k h (inl e) f = cc
no_space (tokens.Number n) k h (inr e) f = cc
no_space t k h e f = cc

pub no_close : (t : Token) (k : Kind) → (t ≡ tokens.Close → ⊥) → IsKind t k → k ≡ kinds.Close → ⊥
no_close tokens.Close k h e f = h refl
no_close (tokens.Number n) k h (inl e) f = cc
no_close (tokens.Number n) k h (inr e) f = cc
no_close t k h e f = cc

-- What holds past a token. Assumes nothing.
use Rattle.std.proofs.Common.{◌≡◌, ℕ, zero, suc, ◌+◌, ◌<◌, ◌≤◌, Bool, true, false, not, ◌⊎◌, List, [], ◌∷◌, ◌++◌, length, get_or, take, drop, sym, refl, ap, ◌∙◌, subst, arith, length-drop, take-append-drop}
use Rattle.std.specs.List.{All, before_first, position_or_len}
use Rattle.std.specs.Char.{is_ascii_digit, is_ascii_lowercase}
use Rattle.std.proofs.lemmas.List.{drop-drop, drop_more, get_or-take, length-take-le}
use Rattle.std.proofs.lemmas.List.Sums.{fails_before_first, passes_at_first, prefix_len-le-length}
use Rattle.std.proofs.lemmas.Bool.Decides.{nat_tests}
use Rattle.grammar.specs.Kinds.{kind}
use Rattle.grammar.specs.Forms.{IsLetter, IsDigit, Run, Ends}
use Rattle.grammar.specs.declared.kind.Kind.{Kind}
use Rattle.grammar.specs.declared.kind.Kind.TheVariants as kinds
use Rattle.grammar.proofs.Same.{head_same}
use Rattle.reader.specs.Tokens.{rest, spells, Maximal, Past}
use Rattle.reader.specs.declared.reader.Reader.{Reader}
use Rattle.reader.specs.declared.reader.TokenAt.{TokenAt}
use Rattle.reader.specs.declared.reader.Token.{Token}

-- the token is the front of what is left, and the reader moves over it
pass :
    (a b : Reader) (t : TokenAt) (n : ℕ) → b.sheet ≡ a.sheet → t.at ≡ a.position → b.position ≡ a.position + n → n ≤ length (rest a) → spells t.token ≡ take n (rest a) → Maximal t.token (drop n (rest a)) → Past a t b
pass a b t n same at to fits is maximal =
    let left : rest b ≡ drop n (rest a) = ap (λ s. drop b.position s.now) same ∙ ap (λ k. drop k a.sheet.now) to ∙ sym (drop-drop n a.position a.sheet.now) in
    let long : length (spells t.token) ≡ n = ap length is ∙ length-take-le n (rest a) fits in
    record {
      went = record {
        same = same;
        to = to ∙ ap (λ k. a.position + k) (sym long);
        bytes = sym (take-append-drop n (rest a)) ∙ ap (λ l. l ++ drop n (rest a)) (sym is) ∙ ap (λ l. spells t.token ++ l) (sym left);
      };
      at = at;
      maximal = subst (Maximal t.token) (sym left) maximal;
    }

-- as the code of `next` has it: the token is the first m bytes that are left, and the position goes up by its width
pub by_front :
    (a b : Reader) (t : TokenAt) (tok : Token) (m n : ℕ) → b.sheet ≡ a.sheet → t.at ≡ a.position → b.position ≡ a.position + n → n ≡ length (spells t.token) → t.token ≡ tok → spells tok ≡ take m (rest a) → m ≤ length (rest a) → Maximal tok (drop m (rest a)) → Past a t b
by_front a b t tok m n same at to width is front fits maximal =
    let long : n ≡ m = width ∙ ap (λ k. length (spells k)) is ∙ ap length front ∙ length-take-le m (rest a) fits in
    pass a b t m same at (to ∙ ap (λ k. a.position + k) long) fits (ap spells is ∙ front) (subst (λ k. Maximal k (drop m (rest a))) (sym is) maximal)

-- the front of one byte
pub front_one : (xs : List ℕ) (b : ℕ) → 0 < length xs → get_or xs 0 0 ≡ b → b ∷ [] ≡ take 1 xs
front_one [] b some is = absurd (omega arith)
front_one (x ∷ xs) b some is = ap (λ y. y ∷ []) (sym is)

-- the bytes before the first that ends a run

module _ (P : ℕ → Type 0) (ends : ℕ → Bool) (yes : (c : ℕ) → ends c ≡ false → P c) (no : (c : ℕ) → ends c ≡ true → P c → ⊥) (tail : List ℕ) where
  abbrev stop : ℕ
  stop = position_or_len ends tail

  front_all : All P (before_first ends tail)
  front_all = λ k d lt.
      let within : k < stop = omega (arith, length-take-le stop tail (prefix_len-le-length _ tail)) in
      subst P (sym (get_or-take stop tail k d within)) (yes (get_or tail k d) (fails_before_first ends tail k d within))

  front_ends : Ends P (drop stop tail)
  front_ends = cases (drop stop tail) refl
    where
      cases : (l : List ℕ) → drop stop tail ≡ l → Ends P l
      cases [] e = tt
      cases (c ∷ l) e =
          let within : stop < length tail = omega (arith, ap length e, length-drop stop tail) in
          let here : get_or tail stop 0 ≡ c = head_same (sym (drop_more tail stop 0 within) ∙ e) in
          no c (sym (ap ends here) ∙ passes_at_first ends tail 0 within)

  front_some : 0 < length tail → ends (get_or tail 0 0) ≡ false → 0 < stop
  front_some some first = cases stop refl
    where
      cases : (n : ℕ) → stop ≡ n → 0 < n
      cases zero e = let last : ends (get_or tail stop 0) ≡ true = passes_at_first ends tail 0 (omega (arith, e)) in let never : false ≡ true = sym first ∙ ap (λ n. ends (get_or tail n 0)) (sym e) ∙ last in cc
      cases (suc n) e = omega arith

  pub fronted : 0 < length tail → ends (get_or tail 0 0) ≡ false → Run P (before_first ends tail) × Ends P (drop stop tail)
  fronted some first =
      let fits = length-take-le stop tail (prefix_len-le-length _ tail) in
      ((omega (arith, fits, front_some some first), front_all), front_ends)

abbrev pub no_letter : ℕ → Bool
no_letter c = not (is_ascii_lowercase c)

abbrev pub no_figure : ℕ → Bool
no_figure c = not (is_ascii_digit c)

pub letters_front : (tail : List ℕ) → 0 < length tail → kinds.Letter ≡ kind (get_or tail 0 0) → Run IsLetter (before_first no_letter tail) × Ends IsLetter (drop (position_or_len no_letter tail) tail)
letters_front tail some is = fronted IsLetter no_letter (λ c h. (grind (arith, nat_tests), grind (arith, nat_tests))) (λ c h (a, b). grind (arith, nat_tests)) tail some (grind (arith, nat_tests))

pub figures_front : (tail : List ℕ) (k : Kind) → 0 < length tail → k ≡ kind (get_or tail 0 0) → (k ≡ kinds.Zero) ⊎ (k ≡ kinds.Digit) → Run IsDigit (before_first no_figure tail) × Ends IsDigit (drop (position_or_len no_figure tail) tail)
figures_front tail k some is which = fronted IsDigit no_figure (λ c h. (grind (arith, nat_tests), grind (arith, nat_tests))) (λ c h (a, b). grind (arith, nat_tests)) tail some (grind (arith, nat_tests))

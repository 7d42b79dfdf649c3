-- Lists of numbers, each after a space. Assumes nothing.
use Rattle.std.proofs.Common.{◌≡◌, ℕ, ◌<◌, ◌≤◌, ◌↔◌, List, [], ◌∷◌, ◌++◌, map, length, Ok, Err, Result, IsOk, OnOk, OnErr, sym, refl, ap, ◌∙◌, subst, append_assoc, append-nil, arith, length-append}
use Rattle.std.proofs.lemmas.List.{length-take, take_all, take-append-le, map_push}
use Rattle.std.proofs.lemmas.List.Elements.{All-nil, All-push, All-head, All-tail}
use Rattle.std.proofs.lemmas.Bool.{iff_false}
use Rattle.bounded.specs.Lists.{list_of}
use Rattle.bounded.specs.declared.list.Bounded.{Bounded}
use Rattle.grammar.specs.Forms.{renders, Ends, IsDigit, IsNumber}
use Rattle.grammar.proofs.Same.{rest_same, head_same, runs_same, number-run}
use Rattle.fields.specs.Wanted.{value, numerals, AreNumbers}
use Rattle.fields.specs.Values.{Keeps}
use Rattle.fields.specs.Pieces.{TookNumber, Took, HasValues, numbers_bytes}

-- a list that takes another number only while it has less than seventeen keeps the first seventeen
kept_more : {E : Type 0} (k k' : Bounded ℕ 17) (xs : List ℕ) (n : ℕ) (r : Result (Unit {0}) E) → Keeps k xs → (IsOk r ↔ (length (list_of k) < 17)) → OnOk r (list_of k' ≡ list_of k ++ n ∷ []) → OnErr r (k' ≡ k) → Keeps k' (xs ++ n ∷ [])
kept_more k k' xs n (Ok u) is room ok err =
    let few : length xs < 17 = omega (arith, room.0 refl, ap length is, length-take 17 xs) in
    let all : list_of k ≡ xs = is ∙ take_all 17 xs (omega arith) in
    ok ∙ ap (λ l. l ++ n ∷ []) all ∙ sym (take_all 17 (xs ++ n ∷ []) (omega (arith, length-append xs (n ∷ []))))
kept_more k k' xs n (Err e) is room ok err =
    let full : 17 ≤ length (list_of k) = omega (arith, iff_false room refl) in
    ap list_of err ∙ is ∙ sym (take-append-le 17 xs (n ∷ []) (omega (arith, ap length is, length-take 17 xs)))

-- two numbers that stand in the same bytes, with all their digits, leave the same bytes
pub number_forced : {m r : List ℕ} {v : ℕ} (n : TookNumber m v r) (ds t : List ℕ) → IsNumber ds → Ends IsDigit t → m ≡ ds ++ t → r ≡ t
number_forced {m} {r} n ds t l h e = (runs_same IsDigit n.digits ds r t (number-run n.digits n.lawful).1 (number-run ds l).1 n.ends h (sym n.is ∙ e)).1

-- some numbers of the bytes are read, and the bytes left are to be read
pub record Sofar (bs left : List ℕ) (k : Bounded ℕ 17) : Type 0 where
  pub of : List (List ℕ)
  pub lawful : AreNumbers of
  pub is : bs ≡ renders (numerals of) ++ left
  pub means : HasValues of k
  pub forced : (ns : List (List ℕ)) (t : List ℕ) → AreNumbers ns → bs ≡ numbers_bytes ns ++ t → (ks : List (List ℕ)) × AreNumbers ks × (left ≡ numbers_bytes ks ++ t)

pub sofar_none : (bs : List ℕ) (k : Bounded ℕ 17) → list_of k ≡ [] → Sofar bs bs k
sofar_none bs k h = record { of = []; lawful = All-nil IsNumber; is = refl; means = h; forced = λ ns t l e. (ns, l, e) }

numerals_push : (ns : List (List ℕ)) (d : List ℕ) → renders (numerals (ns ++ d ∷ [])) ≡ renders (numerals ns) ++ 32 ∷ d
numerals_push [] d = ap (λ l. 32 ∷ l) (append-nil d)
numerals_push (n ∷ ns) d = ap (λ l. 32 ∷ (n ++ l)) (numerals_push ns d) ∙ ap (λ l. 32 ∷ l) (sym (append_assoc n (renders (numerals ns)) (32 ∷ d)))

-- neither a letter nor a digit stands first where numbers go on or end
pub numbers_start : (P : ℕ → Type 0) → (P 32 → ⊥) → (P 41 → ⊥) → (ks : List (List ℕ)) (t : List ℕ) → Ends P (numbers_bytes ks ++ t)
numbers_start P s c [] t = c
numbers_start P s c (k ∷ ks) t = s

no_figure : (ks : List (List ℕ)) (t : List ℕ) → Ends IsDigit (numbers_bytes ks ++ t)
no_figure = numbers_start IsDigit (λ h. omega (arith, h.0)) (λ h. omega (arith, h.0))

more_bytes : (k : List ℕ) (ks : List (List ℕ)) (t : List ℕ) → numbers_bytes (k ∷ ks) ++ t ≡ 32 ∷ (k ++ (numbers_bytes ks ++ t))
more_bytes k ks t = simp append_assoc

-- what numbers that go on with a space go on with
next_number : (left m : List ℕ) (ks : List (List ℕ)) (t : List ℕ) → left ≡ 32 ∷ m → AreNumbers ks → left ≡ numbers_bytes ks ++ t → (k : List ℕ) × (js : List (List ℕ)) × IsNumber k × AreNumbers js × (m ≡ k ++ (numbers_bytes js ++ t))
next_number left m [] t s l e = absurd (omega (arith, head_same (sym s ∙ e)))
next_number left m (k ∷ ks) t s l e = (k, ks, All-head IsNumber k ks l, All-tail IsNumber k ks l, rest_same (sym s ∙ e ∙ more_bytes k ks t))

module _ (bs left : List ℕ) (k : Bounded ℕ 17) (s : Sofar bs left k) where
  -- no lawful numbers and the end of their form stand first
  abbrev NoNumbers : Type 0
  NoNumbers = (ns : List (List ℕ)) (t : List ℕ) → AreNumbers ns → bs ≡ numbers_bytes ns ++ t → ⊥

  pub numbers_stop : ((t : List ℕ) → left ≡ 32 ∷ t → ⊥) → ((t : List ℕ) → left ≡ 41 ∷ t → ⊥) → NoNumbers
  numbers_stop no_space no_close ns t l e = let q = s.forced ns t l e in cases q.0 q.2
    where
      cases : (ks : List (List ℕ)) → left ≡ numbers_bytes ks ++ t → ⊥
      cases [] e = no_close t e
      cases (k ∷ ks) e = no_space _ e

  pub numbers_end : (r : List ℕ) → left ≡ 41 ∷ r → Took numbers_bytes AreNumbers HasValues bs k r
  numbers_end r c =
      record {
        of = s.of;
        lawful = s.lawful;
        is = s.is ∙ ap (λ l. renders (numerals s.of) ++ l) c ∙ sym (append_assoc (renders (numerals s.of)) (41 ∷ []) r);
        means = s.means;
        forced = λ ns t l e. let q = s.forced ns t l e in cases q.0 t q.2;
      }
    where
      cases : (ks : List (List ℕ)) (t : List ℕ) → left ≡ numbers_bytes ks ++ t → r ≡ t
      cases [] t e = rest_same (sym c ∙ e)
      cases (k ∷ ks) t e = absurd (omega (arith, head_same (sym c ∙ e)))

  module _ (m : List ℕ) (space : left ≡ 32 ∷ m) where
    pub numbers_none : ((ds t : List ℕ) → IsNumber ds → Ends IsDigit t → m ≡ ds ++ t → ⊥) → NoNumbers
    numbers_none never ns t l e =
        let q = s.forced ns t l e in
        let h = next_number left m q.0 t space q.1 q.2 in
        never h.0 (numbers_bytes h.1 ++ t) h.2 (no_figure h.1 t) h.4

    module _ (v : ℕ) (r : List ℕ) (n : TookNumber m v r) where
      pub number_shorter : length r < length left
      number_shorter = omega (arith, ap length space, ap length n.is ∙ length-append n.digits r)

      pub sofar_more : {E : Type 0} (k' : Bounded ℕ 17) (res : Result (Unit {0}) E) → (IsOk res ↔ (length (list_of k) < 17)) → OnOk res (list_of k' ≡ list_of k ++ v ∷ []) → OnErr res (k' ≡ k) → Sofar bs r k'
      sofar_more k' res room ok err =
          let kept : Keeps k' (map value s.of ++ v ∷ []) = kept_more k k' (map value s.of) v res s.means room ok err in
          record {
            of = s.of ++ n.digits ∷ [];
            lawful = All-push IsNumber s.of n.digits s.lawful n.lawful;
            is = s.is ∙ ap (λ l. renders (numerals s.of) ++ l) (space ∙ ap (λ l. 32 ∷ l) n.is) ∙ sym (append_assoc (renders (numerals s.of)) (32 ∷ n.digits) r) ∙ ap (λ l. l ++ r) (sym (numerals_push s.of n.digits));
            means = subst (Keeps k') (ap (λ x. map value s.of ++ x ∷ []) n.means ∙ sym (map_push value s.of n.digits)) kept;
            forced = λ ns t l e.
                let q = s.forced ns t l e in
                let h = next_number left m q.0 t space q.1 q.2 in
                (h.1, h.3, number_forced n h.0 (numbers_bytes h.1 ++ t) h.2 (no_figure h.1 t) h.4);
          }

-- A loop that joins one period after another. Assumes nothing.
use Rattle.std.proofs.Common.{◌≡◌, ℕ, zero, suc, ◌+◌, ◌<◌, ◌≤◌, ◌⊎◌, List, [], ◌∷◌, length, get_or, take, drop, sym, refl, ◌∙◌, inl, inr, ⊎_elim, arith}
use Rattle.std.specs.List.{All, Contains}
use Rattle.std.proofs.lemmas.List.{at_drop_more, at_drop_all, take_all}
use Rattle.std.proofs.lemmas.List.Elements.{All-from_recursion, recursion_from_All, All-drop, All-same, Contains-append_right}
use Rattle.span.specs.Spans.{lcm_of, span_from, span_of, Positive, Spanned}
use Rattle.span.proofs.Multiples.{span_from_nil, span_from_cons, span_from_grows, span_least}

-- some number is 0, or all are above 0
pub zero_or_positive : (ps : List ℕ) → Contains ps 0 ⊎ Positive ps
zero_or_positive [] = inr tt
zero_or_positive (zero ∷ ps) = inl (0, omega arith, refl)
zero_or_positive (suc p ∷ ps) =
    ⊎_elim (λ (h : Contains ps 0). inl (Contains-append_right (suc p ∷ []) ps 0 h)) (λ (h : Positive ps). inr (omega arith, h)) (zero_or_positive ps)

module _ (ps : List ℕ) (i m : ℕ) where
  pub span_next : i < length ps → span_from (lcm_of m (get_or ps i 0)) (drop (i + 1) ps) ≡ span_from m (drop i ps)
  span_next h = sym (at_drop_more (span_from m) ps i 0 h ∙ span_from_cons m (get_or ps i 0) (drop (i + 1) ps))

  pub span_over : i < length ps → 0 < m → span_from m (drop i ps) ≡ span_of ps → 1000000 < lcm_of m (get_or ps i 0) → Contains ps 0 ⊎ (1000000 < span_of ps)
  span_over h some is over =
      ⊎_elim (λ (z : Contains ps 0). inl z)
      (λ (all : Positive ps).
      let grows : lcm_of m (get_or ps i 0) ≤ span_from (lcm_of m (get_or ps i 0)) (drop (i + 1) ps) = span_from_grows _ _ (omega arith) (recursion_from_All (λ p. 0 < p) _ (All-drop (λ p. 0 < p) (i + 1) ps (All-from_recursion (λ p. 0 < p) ps all))) in
      inr (omega (arith, span_next h, is)))
      (zero_or_positive ps)

  pub span_all : length ps ≤ i → m ≤ 1000000 → All (λ p. 0 < p) (take i ps) → span_from m (drop i ps) ≡ span_of ps → Spanned ps m
  span_all h low all is =
      let all' : Positive ps = recursion_from_All (λ p. 0 < p) ps (All-same (λ p. 0 < p) ps (take i ps) (sym (take_all i ps h)) all) in
      let is' : m ≡ span_of ps = sym (at_drop_all (span_from m) ps i h ∙ span_from_nil m) ∙ is in
      record { positive = all'; is = is'; within = low; least = rw is' (span_least ps all') }

-- Elements changed one after another. Assumes nothing.
use Rattle.std.proofs.Common.{◌≡◌, ℕ, zero, suc, ◌+◌, ◌<◌, List, [], ◌∷◌, map, length, get_or, take, drop, set, sym, refl, ap, subst, add-one, arith}
use Rattle.std.specs.List.{AllZip}

module _ {X : Type 0} (R : X → X → Type 0) where
  more : (old xs : List X) (i : ℕ) (x y : X) → i < length xs → x ≡ get_or xs i x → R x y → AllZip R (take i old) (take i xs) → drop i xs ≡ drop i old
      → AllZip R (take (suc i) old) (take (suc i) (set xs i y)) × (drop (suc i) (set xs i y) ≡ drop (suc i) old)
  more old [] i x y h at r behind ahead = absurd (omega arith)
  more [] (b ∷ xs) zero x y h at r behind ahead = absurd (omega (arith, ap length ahead))
  more (a ∷ old) (b ∷ xs) zero x y h at r behind ahead =
      let same : x ≡ a = cc in
      let rest : xs ≡ old = cc in
      ((subst (λ z. R z y) same r, tt), rest)
  more [] (b ∷ xs) (suc i) x y h at r behind ahead = absurd behind
  more (a ∷ old) (b ∷ xs) (suc i) x y h at r behind ahead = let rest = more old xs i x y (omega arith) at r behind.1 ahead in ((behind.0, rest.0), rest.1)

  pub changed_more : (old xs : List X) (i : ℕ) (x y : X) → i < length xs → x ≡ get_or xs i x → R x y → AllZip R (take i old) (take i xs) × (drop i xs ≡ drop i old)
      → AllZip R (take (i + 1) old) (take (i + 1) (set xs i y)) × (drop (i + 1) (set xs i y) ≡ drop (i + 1) old)
  changed_more old xs i x y h at r inv = subst (λ n. AllZip R (take n old) (take n (set xs i y)) × (drop n (set xs i y) ≡ drop n old)) (sym (add-one i)) (more old xs i x y h at r inv.0 inv.1)

-- where what is made of an element is g of it, the list is mapped
pub changed_by : {X : Type 0} {R : X → X → Type 0} (g : X → X) (xs ys : List X) → ((x y : X) → R x y → y ≡ g x) → AllZip R xs ys → ys ≡ map g xs
changed_by g [] [] h z = refl
changed_by g [] (y ∷ ys) h z = absurd z
changed_by g (x ∷ xs) [] h z = absurd z
changed_by g (x ∷ xs) (y ∷ ys) h z = λ i. h x y z.0 i ∷ changed_by g xs ys h z.1 i

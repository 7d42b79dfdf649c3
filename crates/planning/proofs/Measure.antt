-- Each move of the search leaves fewer steps. Assumes nothing.
use Rattle.std.proofs.Common.{◌≡◌, ℕ, zero, suc, ◌+◌, ◌-◌, ◌*◌, ◌<◌, ◌≤◌, List, [], ◌∷◌, ◌++◌, length, ap, ◌∙◌, add-mul, one-mul, arith}
use Rattle.planning.specs.Walk.{share, left}

share_some : (m n : ℕ) → 1 ≤ share m n
share_some m zero = omega arith
share_some m (suc n) = omega arith

one_more : (a b x : ℕ) → a ≡ b + 1 → a * x ≡ b * x + x
one_more a b x e = ap (λ k. k * x) e ∙ add-mul b 1 x ∙ ap (λ k. b * x + k) (one-mul x)

-- the next core
pub left_next : (m n : ℕ) (ps : List ℕ) (c : ℕ) → length ps < n → c ≤ m → left m n ps (c + 1) < left m n ps c
left_next m n [] c l h = omega (arith, one_more (m + 2 - c) (m + 2 - (c + 1)) (share m n) (omega arith), share_some m n)
left_next m zero (d ∷ ds) c l h = absurd (omega arith)
left_next m (suc n) (d ∷ ds) c l h = omega (arith, left_next m n ds c (omega arith) h)

-- one task further down
pub left_deeper : (m n : ℕ) (ps : List ℕ) (c : ℕ) → length ps < n → c ≤ m → left m n (ps ++ c ∷ []) 1 < left m n ps c
left_deeper m zero ps c l h = absurd (omega arith)
left_deeper m (suc n) [] c l h =
    let e : m + 2 - 1 ≡ m + 1 = omega arith in
    let f : (m + 2 - 1) * share m n ≡ (m + 1) * share m n = ap (λ k. k * share m n) e in
    omega (arith, one_more (m + 2 - c) (m + 1 - c) (share m (suc n)) (omega arith), f)
left_deeper m (suc n) (d ∷ ds) c l h = omega (arith, left_deeper m n ds c (omega arith) h)

-- back to the task before
pub left_back : (m n : ℕ) (ps : List ℕ) (d c : ℕ) → length ps < n → c ≤ m + 1 → left m n ps (d + 1) < left m n (ps ++ d ∷ []) c
left_back m zero ps d c l h = absurd (omega arith)
left_back m (suc n) [] d c l h =
    let e : m + 2 - (d + 1) ≡ m + 1 - d = omega arith in
    let f : (m + 2 - (d + 1)) * share m (suc n) ≡ (m + 1 - d) * share m (suc n) = ap (λ k. k * share m (suc n)) e in
    omega (arith, f, one_more (m + 2 - c) (m + 1 - c) (share m n) (omega arith), share_some m n)
left_back m (suc n) (x ∷ xs) d c l h = omega (arith, left_back m n xs d c (omega arith) h)

-- Dictionary order: beginnings, what comes before them, and what comes no later. Assumes nothing.
use Rattle.std.proofs.Common.{◌≡◌, ℕ, suc, ◌<◌, ◌≤◌, ◌⊎◌, List, [], ◌∷◌, ◌++◌, length, refl, inl, inr, arith}
use Rattle.std.specs.List.{AllByRecursion}
use Rattle.std.proofs.lemmas.Bool.{cases_lt}
use Rattle.cuts.specs.Orders.{NoLater}
use Rattle.optimality.specs.Beginnings.{Before}

-- xs begins with ps
abbrev pub Begins : List ℕ → List ℕ → Type 0
Begins xs [] = Unit {0}
Begins [] (p ∷ ps) = ⊥
Begins (x ∷ xs) (p ∷ ps) = (x ≡ p) × Begins xs ps

pub begins_same : (xs : List ℕ) → Begins xs xs
begins_same [] = tt
begins_same (x ∷ xs) = (refl, begins_same xs)

pub begins_self : (ps qs : List ℕ) → Begins (ps ++ qs) ps
begins_self [] qs = tt
begins_self (p ∷ ps) qs = (refl, begins_self ps qs)

pub begins_front : (xs ps qs : List ℕ) → Begins xs (ps ++ qs) → Begins xs ps
begins_front xs [] qs b = tt
begins_front [] (p ∷ ps) qs b = absurd b
begins_front (x ∷ xs) (p ∷ ps) qs b = (b.0, begins_front xs ps qs b.1)

pub begins_whole : (xs ps : List ℕ) → length xs ≡ length ps → Begins xs ps → xs ≡ ps
begins_whole [] [] l b = refl
begins_whole [] (p ∷ ps) l b = absurd b
begins_whole (x ∷ xs) [] l b = absurd (omega arith)
begins_whole (x ∷ xs) (p ∷ ps) l b = λ i. b.0 i ∷ begins_whole xs ps (omega arith) b.1 i

-- what comes before the next number in the last place comes before the number, or begins with it
pub next_place : (xs ps : List ℕ) (c : ℕ) → Before xs (ps ++ suc c ∷ []) → Before xs (ps ++ c ∷ []) ⊎ Begins xs (ps ++ c ∷ [])
next_place [] ps c b = absurd b
next_place (x ∷ xs) [] c (inl h) = elim (cases_lt x c) [ inl l ↦ inl (inl l) | inr g ↦ inr (omega arith, tt) ]
next_place (x ∷ []) [] c (inr d) = absurd d.1
next_place (x ∷ (y ∷ ys)) [] c (inr d) = absurd d.1
next_place (x ∷ xs) (p ∷ ps) c (inl h) = inl (inl h)
next_place (x ∷ xs) (p ∷ ps) c (inr d) = elim (next_place xs ps c d.1) [ inl b ↦ inl (inr (d.0, b)) | inr b ↦ inr (d.0, b) ]

-- and back
pub before_next : (xs ps : List ℕ) (c : ℕ) → Before xs (ps ++ c ∷ []) → Before xs (ps ++ suc c ∷ [])
before_next [] ps c b = absurd b
before_next (x ∷ xs) [] c (inl h) = inl (omega arith)
before_next (x ∷ []) [] c (inr d) = absurd d.1
before_next (x ∷ (y ∷ ys)) [] c (inr d) = absurd d.1
before_next (x ∷ xs) (p ∷ ps) c (inl h) = inl h
before_next (x ∷ xs) (p ∷ ps) c (inr d) = inr (d.0, before_next xs ps c d.1)

pub begins_next : (xs ps : List ℕ) (c : ℕ) → Begins xs (ps ++ c ∷ []) → Before xs (ps ++ suc c ∷ [])
begins_next [] [] c b = absurd b
begins_next [] (p ∷ ps) c b = absurd b
begins_next (x ∷ xs) [] c b = inl (omega arith)
begins_next (x ∷ xs) (p ∷ ps) c b = inr (b.0, begins_next xs ps c b.1)

-- one place deeper, at the least number
pub before_deeper : (xs ps : List ℕ) → AllByRecursion (λ x. 1 ≤ x) xs → Before xs (ps ++ 1 ∷ []) → Before xs ps
before_deeper [] ps a b = absurd b
before_deeper (x ∷ xs) [] a (inl h) = omega arith
before_deeper (x ∷ []) [] a (inr d) = absurd d.1
before_deeper (x ∷ (y ∷ ys)) [] a (inr d) = absurd d.1
before_deeper (x ∷ xs) (p ∷ ps) a (inl h) = inl h
before_deeper (x ∷ xs) (p ∷ ps) a (inr d) = inr (d.0, before_deeper xs ps a.1 d.1)

pub before_more : (xs ps qs : List ℕ) → Before xs ps → Before xs (ps ++ qs)
before_more [] ps qs b = absurd b
before_more (x ∷ xs) [] qs b = absurd b
before_more (x ∷ xs) (p ∷ ps) qs (inl h) = inl h
before_more (x ∷ xs) (p ∷ ps) qs (inr d) = inr (d.0, before_more xs ps qs d.1)

-- what comes before a longer place comes before its front, or begins with it
pub before_split : (xs ps qs : List ℕ) → Before xs (ps ++ qs) → Before xs ps ⊎ Begins xs ps
before_split xs [] qs b = inr tt
before_split [] (p ∷ ps) qs b = absurd b
before_split (x ∷ xs) (p ∷ ps) qs (inl h) = inl (inl h)
before_split (x ∷ xs) (p ∷ ps) qs (inr d) = elim (before_split xs ps qs d.1) [ inl b ↦ inl (inr (d.0, b)) | inr b ↦ inr (d.0, b) ]

-- every number is below c, so all that begins with ps and is longer comes before ps and c
pub begins_below : (xs ps : List ℕ) (c : ℕ) → AllByRecursion (λ x. x < c) xs → length ps < length xs → Begins xs ps → Before xs (ps ++ c ∷ [])
begins_below [] ps c a l b = absurd (omega arith)
begins_below (x ∷ xs) [] c a l b = inl a.0
begins_below (x ∷ xs) (p ∷ ps) c a l b = inr (b.0, begins_below xs ps c a.1 (omega arith) b.1)

-- what comes before a beginning comes before all that begins with it
pub before_begins : (xs ps ys : List ℕ) → Before xs ps → Begins ys ps → Before xs ys
before_begins [] ps ys b g = absurd b
before_begins (x ∷ xs) [] ys b g = absurd b
before_begins (x ∷ xs) (p ∷ ps) [] b g = absurd g
before_begins (x ∷ xs) (p ∷ ps) (y ∷ ys) (inl h) g = inl (omega (arith, g.0))
before_begins (x ∷ xs) (p ∷ ps) (y ∷ ys) (inr d) g = inr (omega (arith, g.0, d.0), before_begins xs ps ys d.1 g.1)

-- what comes before is no later, whatever follows
pub before_no_later : (xs ys fs gs : List ℕ) → Before xs ys → NoLater (xs ++ fs) (ys ++ gs)
before_no_later [] ys fs gs b = absurd b
before_no_later (x ∷ xs) [] fs gs b = absurd b
before_no_later (x ∷ xs) (y ∷ ys) fs gs (inl h) = inl h
before_no_later (x ∷ xs) (y ∷ ys) fs gs (inr d) = inr (d.0, before_no_later xs ys fs gs d.1)

pub no_later_append : (xs ys fs gs : List ℕ) → length xs ≡ length ys → NoLater xs ys → NoLater fs gs → NoLater (xs ++ fs) (ys ++ gs)
no_later_append [] [] fs gs l d e = e
no_later_append [] (y ∷ ys) fs gs l d e = absurd (omega arith)
no_later_append (x ∷ xs) [] fs gs l d e = absurd d
no_later_append (x ∷ xs) (y ∷ ys) fs gs l (inl h) e = inl h
no_later_append (x ∷ xs) (y ∷ ys) fs gs l (inr d) e = inr (d.0, no_later_append xs ys fs gs (omega arith) d.1 e)

pub no_later_same : (xs : List ℕ) → NoLater xs xs
no_later_same [] = tt
no_later_same (x ∷ xs) = inr (refl, no_later_same xs)

pub no_later_head : (x y : ℕ) (xs ys : List ℕ) → NoLater (x ∷ xs) (y ∷ ys) → x ≤ y
no_later_head x y xs ys (inl h) = omega arith
no_later_head x y xs ys (inr d) = omega arith

-- no head is left to differ in
pub no_later_tail : (x y : ℕ) (xs ys : List ℕ) → y ≤ x → NoLater (x ∷ xs) (y ∷ ys) → NoLater xs ys
no_later_tail x y xs ys h (inl l) = absurd (omega arith)
no_later_tail x y xs ys h (inr d) = d.1

pub no_later_trans : (xs ys zs : List ℕ) → NoLater xs ys → NoLater ys zs → NoLater xs zs
no_later_trans [] ys zs d e = tt
no_later_trans (x ∷ xs) [] zs d e = absurd d
no_later_trans (x ∷ xs) (y ∷ ys) [] d e = absurd e
no_later_trans (x ∷ xs) (y ∷ ys) (z ∷ zs) (inl h) (inl k) = inl (omega arith)
no_later_trans (x ∷ xs) (y ∷ ys) (z ∷ zs) (inl h) (inr k) = inl (omega (arith, k.0))
no_later_trans (x ∷ xs) (y ∷ ys) (z ∷ zs) (inr h) (inl k) = inl (omega (arith, h.0))
no_later_trans (x ∷ xs) (y ∷ ys) (z ∷ zs) (inr h) (inr k) = inr (omega (arith, h.0, k.0), no_later_trans xs ys zs h.1 k.1)

pub no_later_antisym : (xs ys : List ℕ) → NoLater xs ys → NoLater ys xs → xs ≡ ys
no_later_antisym [] [] d e = refl
no_later_antisym [] (y ∷ ys) d e = absurd e
no_later_antisym (x ∷ xs) [] d e = absurd d
no_later_antisym (x ∷ xs) (y ∷ ys) (inl h) (inl k) = absurd (omega arith)
no_later_antisym (x ∷ xs) (y ∷ ys) (inl h) (inr k) = absurd (omega (arith, k.0))
no_later_antisym (x ∷ xs) (y ∷ ys) (inr h) (inl k) = absurd (omega (arith, h.0))
no_later_antisym (x ∷ xs) (y ∷ ys) (inr h) (inr k) = λ i. h.0 i ∷ no_later_antisym xs ys h.1 k.1 i

-- The first ready record with the earliest deadline, from a chain over the numbered records. Assumes nothing.
use Rattle.std.proofs.Common.{◌≡◌, ℕ, ◌+◌, ◌<◌, ◌≤◌, Bool, true, false, cond, nat_lt, List, [], ◌∷◌, map, filter, length, get_or, drop, Some, None, Option, MatchOption, Ordering, Less, Equal, Greater, sym, refl, ap, ◌∙◌, subst, arith, below_more}
use Rattle.std.specs.List.{best_of, enumerate_from, FoldsTo}
use Rattle.std.specs.Ordering.{nat_cmp, min_by_ordering}
use Rattle.std.specs.Fn.{CalledAt}
use Rattle.std.specs.Iterator.{PicksMinByKey, KeyTurn}
use Rattle.std.proofs.lemmas.Iterator.{YieldsList, items_from_drains}
use Rattle.std.proofs.lemmas.List.{drop_more, length-drop, get_or_default}
use Rattle.std.proofs.lemmas.Bool.Decides.{nat_tests}
use Rattle.std.proofs.lemmas.Bool.{ltb-true, ltb-false}
use denote.Param.Members.{Mut}
use denote.Ref.{Bor}
use Rattle.machine.specs.declared.types.Slot.{Slot}
use Rattle.machine.specs.Slots.{ready_on}
use Rattle.machine.specs.Choosing.{Chooses}

-- the choice among the first k records, and one more
module _ (c : ℕ) (ss : List Slot) (k : ℕ) (s : Slot) (h : k < length ss) (is : (d : Slot) → get_or ss k d ≡ s) where
  NotReady : ℕ → Type 0
  NotReady q = (d : Slot) → ready_on c (get_or ss q d) ≡ false

  NoEarlier : ℕ → ℕ → Type 0
  NoEarlier p q = (d : Slot) → ready_on c (get_or ss q d) ≡ true → (get_or ss p d).due ≤ (get_or ss q d).due

  no_more : (o : Option ℕ) → ready_on c s ≡ false → Chooses c ss k o → Chooses c ss (k + 1) o
  unfolding NotReady NoEarlier
  no_more None r none = λ q d l. below_more NotReady k (λ q l d. none q d l) (λ d. ap (ready_on c) (is d) ∙ r) q l d
  no_more (Some p) r best = (
    omega (arith, best.0),
    best.1,
    λ q d l. below_more (NoEarlier p) k (λ q l d. best.2 q d l) (λ d t. let f = ap (ready_on c) (is d) ∙ r in absurd cc) q l d,
    best.3,
  )

  first : ready_on c s ≡ true → Chooses c ss k None → Chooses c ss (k + 1) (Some k)
  unfolding NoEarlier
  first r none = (
    omega arith,
    λ d. ap (ready_on c) (is d) ∙ r,
    λ q d l. below_more (NoEarlier k) k (λ q l d t. let f = none q d l in absurd cc) (λ d t. omega arith) q l d,
    λ q d l t. let f = none q d l in absurd cc,
  )

  keeps : (p : ℕ) → ready_on c s ≡ true → (get_or ss p s).due ≤ s.due → Chooses c ss k (Some p) → Chooses c ss (k + 1) (Some p)
  unfolding NoEarlier
  keeps p r le best =
      let p_in : p < length ss = omega (arith, best.0) in (
        omega (arith, best.0),
        best.1,
        λ q d l. below_more (NoEarlier p) k (λ q l d. best.2 q d l) (λ d t. omega (arith, le, ap (λ x. x.due) (is d), ap (λ x. x.due) (get_or_default ss p d s p_in))) q l d,
        best.3,
      )

  takes : (p : ℕ) → ready_on c s ≡ true → s.due < (get_or ss p s).due → Chooses c ss k (Some p) → Chooses c ss (k + 1) (Some k)
  unfolding NoEarlier
  takes p r lt best =
      let p_in : p < length ss = omega (arith, best.0) in (
        omega arith,
        λ d. ap (ready_on c) (is d) ∙ r,
        λ q d l. below_more (NoEarlier k) k (λ q l d t. omega (arith, lt, best.2 q d l t, ap (λ x. x.due) (is d), ap (λ x. x.due) (get_or_default ss p d s p_in))) (λ d t. omega arith) q l d,
        λ q d l t. omega (arith, lt, best.2 q d l t, ap (λ x. x.due) (is d), ap (λ x. x.due) (get_or_default ss p d s p_in)),
      )

abbrev beats : ℕ × Slot → ℕ × Slot → Bool
beats x y = nat_lt x.1.due y.1.due

-- the rest of the records, from the k-th on
module _ (c : ℕ) (ss : List Slot) where
  abbrev numbered : ℕ → List Slot → List (ℕ × Slot)
  numbered k rest = filter (λ x. ready_on c x.1) (enumerate_from k rest)

  -- what the chain over the rest comes to
  abbrev Picked : List (ℕ × Slot) → Type 0
  Picked [] = Chooses c ss (length ss) None
  Picked (a ∷ more) = Chooses c ss (length ss) (Some (best_of beats a more).0)

  module _ (rest : List Slot) (k : ℕ) (s : Slot) (e : drop k ss ≡ s ∷ rest) where
    inside : k < length ss
    inside = omega (arith, length-drop k ss, ap length e)

    here : (d : Slot) → get_or ss k d ≡ s
    here d = let more = drop_more ss k d inside in cc

    onward : drop (k + 1) ss ≡ rest
    onward = let more = drop_more ss k s inside in cc

  at_end : (k : ℕ) (o : Option ℕ) → drop k ss ≡ [] → k ≤ length ss → Chooses c ss k o → Chooses c ss (length ss) o
  at_end k o e le ch = let all : k ≡ length ss = omega (arith, length-drop k ss, ap length e) in subst (λ n. Chooses c ss n o) all ch

  after : (rest : List Slot) (k : ℕ) (best : ℕ × Slot) → drop k ss ≡ rest → k ≤ length ss → Chooses c ss k (Some best.0) → ((d : Slot) → best.0 < length ss → get_or ss best.0 d ≡ best.1) → Chooses c ss (length ss) (Some (best_of beats best (numbered k rest)).0)
  after [] k best e le ch at = at_end k (Some best.0) e le ch
  after (s ∷ rest) k best e le ch at =
      go (ready_on c s) refl (λ best. after rest (k + 1) best (onward rest k s e) (omega (arith, inside rest k s e)))
    where
      go : (b : Bool) → ready_on c s ≡ b
          → ((best : ℕ × Slot) → Chooses c ss (k + 1) (Some best.0) → ((d : Slot) → best.0 < length ss → get_or ss best.0 d ≡ best.1) → Chooses c ss (length ss) (Some (best_of beats best (numbered (k + 1) rest)).0))
          → Chooses c ss (length ss) (Some (best_of beats best (cond b ((k, s) ∷ numbered (k + 1) rest) (numbered (k + 1) rest))).0)
      go false r next = next best (no_more c ss k s (inside rest k s e) (here rest k s e) (Some best.0) r ch) at
      go true r next = turn (nat_lt s.due best.1.due) refl
        where
          due : (get_or ss best.0 s).due ≡ best.1.due
          due = ap (λ x. x.due) (at s (omega (arith, ch.0, le)))

          turn : (b : Bool) → nat_lt s.due best.1.due ≡ b → Chooses c ss (length ss) (Some (best_of beats (cond b (k, s) best) (numbered (k + 1) rest)).0)
          turn true q = next (k, s) (takes c ss k s (inside rest k s e) (here rest k s e) best.0 r (omega (arith, ltb-true s.due best.1.due q, due)) ch) (λ d l. here rest k s e d)
          turn false q = next best (keeps c ss k s (inside rest k s e) (here rest k s e) best.0 r (omega (arith, ltb-false s.due best.1.due q, due)) ch) at

  picked : (rest : List Slot) (k : ℕ) → drop k ss ≡ rest → k ≤ length ss → Chooses c ss k None → Picked (numbered k rest)
  picked [] k e le none = at_end k None e le none
  picked (s ∷ rest) k e le none =
      go (ready_on c s) refl (picked rest (k + 1) (onward rest k s e) (omega (arith, inside rest k s e)))
      (λ best. after rest (k + 1) best (onward rest k s e) (omega (arith, inside rest k s e)))
    where
      go : (b : Bool) → ready_on c s ≡ b → (Chooses c ss (k + 1) None → Picked (numbered (k + 1) rest))
          → ((best : ℕ × Slot) → Chooses c ss (k + 1) (Some best.0) → ((d : Slot) → best.0 < length ss → get_or ss best.0 d ≡ best.1) → Chooses c ss (length ss) (Some (best_of beats best (numbered (k + 1) rest)).0))
          → Picked (cond b ((k, s) ∷ numbered (k + 1) rest) (numbered (k + 1) rest))
      go false r skip begin = skip (no_more c ss k s (inside rest k s e) (here rest k s e) None r none)
      go true r skip begin = begin (k, s) (first c ss k s (inside rest k s e) (here rest k s e) r none) (λ d l. here rest k s e d)

least : {X : Type 0} (a b : ℕ) (x y : X) → min_by_ordering (nat_cmp a b) x y ≡ cond (nat_lt b a) y x
least a b x y = grind (arith, nat_tests)

least_of : {X Y : Type 0} (f : X → Y) (o : Ordering) (x y : X) → f (min_by_ordering o x y) ≡ min_by_ordering o (f x) (f y)
least_of f Less x y = refl
least_of f Equal x y = refl
least_of f Greater x y = refl

-- what min_by_key gives of a chain, where its closure gives the deadline
module _ {A F : Type 0} (v : A → ℕ × Slot) (g : Mut F (Bor A × Unit {0}) ℕ) (f : F) (call : (x : A) (k : ℕ) (q : F) → CalledAt g f x k q → (q ≡ f) × (k ≡ (v x).1.due)) where
  turns : (xs : List A) (p q : (F × ℕ) × A) → p.0.0 ≡ f → p.0.1 ≡ (v p.1).1.due → FoldsTo {P = (F × ℕ) × A} (KeyTurn min_by_ordering min_by_ordering g nat_cmp) p xs q → v q.1 ≡ best_of beats (v p.1) (map v xs)
  turns [] p q same key folds = ap (λ z. v z.1) (sym folds)
  turns (x ∷ xs) p q same key folds =
      let j : (F × ℕ) × A = folds.0 in
      let k : ℕ = folds.1.0 in
      let o : Ordering = folds.1.1 in
      let called = call x k j.0.0 (subst (λ h. CalledAt g h x k j.0.0) same folds.1.2) in
      let best : v j.1 ≡ min_by_ordering o (v p.1) (v x) = ap v folds.1.5 ∙ least_of v o p.1 x in
      let order : o ≡ nat_cmp (v p.1).1.due (v x).1.due = sym folds.1.3 ∙ (λ i. nat_cmp (key i) (called.1 i)) in
      let next : v j.1 ≡ cond (beats (v x) (v p.1)) (v x) (v p.1) = best ∙ ap (λ o. min_by_ordering o (v p.1) (v x)) order ∙ least (v p.1).1.due (v x).1.due (v p.1) (v x) in
      let due : j.0.1 ≡ (v j.1).1.due = folds.1.4 ∙ (λ i. min_by_ordering o (key i) (called.1 i)) ∙ sym (least_of (λ z. z.1.due) o (v p.1) (v x)) ∙ ap (λ z. z.1.due) (sym best) in
      turns xs j q called.0 due folds.2 ∙ ap (λ z. best_of beats z (map v xs)) next

  pub least_due : {S : Type 0} {steps : S → Option A → S → Type 0} {s : S} {all : List (ℕ × Slot)} (r : Option A) → PicksMinByKey steps g nat_cmp s f r → YieldsList steps v s all
      → MatchOption r (all ≡ []) (λ y. (a : ℕ × Slot) × (more : List (ℕ × Slot)) × (all ≡ a ∷ more) × (v y ≡ best_of beats a more))
  least_due {steps = steps} {s = s} None p road = sym (items_from_drains {steps = steps} {v = v} {s = s} [] (p.1.0, p.1.1, λ _. (p.0, p.1.2)) road)
  least_due {steps = steps} {s = s} (Some y) p road =
      let called = call p.0 p.2 p.3 p.6 in
      (v p.0, map v p.1, sym (items_from_drains {steps = steps} {v = v} {s = s} (p.0 ∷ p.1) (let d = p.5 in (d.1.0, d.1.1, λ _. (d.0, d.1.2))) road), turns p.1 ((p.3, p.2), p.0) (p.4, y) called.0 called.1 p.7)

-- so the index of what is picked is the choice
pub chosen : {A : Type 0} (v : A → ℕ × Slot) (c : ℕ) (ss : List Slot) (r : Option A) (o : Option ℕ)
    → MatchOption r (numbered c ss 0 ss ≡ []) (λ y. (a : ℕ × Slot) × (more : List (ℕ × Slot)) × (numbered c ss 0 ss ≡ a ∷ more) × (v y ≡ best_of beats a more))
    → MatchOption r (o ≡ None) (λ y. o ≡ Some (v y).0) → Chooses c ss (length ss) o
chosen v c ss None o p e = subst (Chooses c ss (length ss)) (sym e) (subst (Picked c ss) p (picked c ss ss 0 refl (omega arith) (λ q d l. absurd (omega arith))))
chosen v c ss (Some y) o p e =
    let all = subst (Picked c ss) p.2 (picked c ss ss 0 refl (omega arith) (λ q d l. absurd (omega arith))) in
    subst (Chooses c ss (length ss)) (ap (λ z. Some z.0) (sym p.3) ∙ sym e) all

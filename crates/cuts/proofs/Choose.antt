-- The backward recursion over the points finds the chosen cuts. Assumes nothing.
use Rattle.std.proofs.Common.{◌≡◌, ℕ, zero, suc, ◌+◌, ◌-◌, ◌≤◌, Bool, true, false, cond, leb, List, [], ◌∷◌, ◌++◌, map, length, set, replicate, Some, None, Option, sym, refl, ap, ◌∙◌, subst, inr, add-one, arith}
use Rattle.std.specs.List.{AllByRecursion}
use Rattle.std.proofs.lemmas.List.{replicate-append-replicate}
use Rattle.std.proofs.lemmas.Grind.{common_steps}
use Rattle.std.proofs.lemmas.Bool.{leb-true, leb-false, cond_both}
use Rattle.tasks.specs.Cuts.{regions_from, cost_at}
use Rattle.cuts.specs.declared.types.Cuts.{Cuts}
use Rattle.cuts.specs.Orders.{NoLater, mark}
use Rattle.cuts.specs.Allowed.{Within, within, flags_at, cut_beyond}
use Rattle.cuts.specs.Dynamic.{cheaper_of, with_cut, uncut, best_from}
use Rattle.cuts.proofs.Limits.{within_true, within_false}

-- what flags are ranked by
abbrev rank : List ℕ → List Bool → List ℕ
rank ps fs = cost_at ps fs ∷ map mark (flags_at ps fs)

-- no region is too long, where the first has the length n already
abbrev Short : Option ℕ → ℕ → List ℕ → List ℕ → List Bool → Type 0
Short limit n bs ps fs = AllByRecursion (Within limit) (regions_from n bs ps fs)

-- c is chosen for the points ps, the first of which is point e: fs are its flags from there on
pub record Chosen (limit : Option ℕ) (n e : ℕ) (bs ps : List ℕ) (c : Cuts) : Type 0 where
  pub fs : List Bool
  pub flags_are : c.flags ≡ replicate e false ++ fs
  pub cost_is : c.cost ≡ cost_at ps fs
  pub at_points_lem : cut_beyond ps fs ≡ false
  pub short : Short limit n bs ps fs
  pub least : (gs : List Bool) → Short limit n bs ps gs → NoLater (rank ps fs) (rank ps gs)

abbrev pub Answer : Option ℕ → ℕ → ℕ → List ℕ → List ℕ → Option Cuts → Type 0
Answer limit n e bs ps None = (gs : List Bool) → Short limit n bs ps gs → ⊥
Answer limit n e bs ps (Some c) = Chosen limit n e bs ps c

cost-none : (ps : List ℕ) → cost_at ps [] ≡ 0
cost-none [] = refl
cost-none (p ∷ ps) = refl

beyond_falses : (k : ℕ) → cut_beyond [] (replicate k false) ≡ false
beyond_falses zero = refl
beyond_falses (suc k) = beyond_falses k

falses_more : (e : ℕ) (fs : List Bool) → replicate (suc e) false ++ fs ≡ replicate e false ++ (false ∷ fs)
falses_more e fs = grind (arith, common_steps)

falses_set : (e : ℕ) (fs : List Bool) → set (replicate (suc e) false ++ fs) e true ≡ replicate e false ++ (true ∷ fs)
falses_set zero fs = refl
falses_set (suc e) fs = ap (λ l. false ∷ l) (falses_set e fs)

module _ (limit : Option ℕ) (n e b p : ℕ) (bs ps : List ℕ) where
  -- flags that are missing are none
  by_head : (R : List ℕ)
      → ((gs : List Bool) → Short limit n (b ∷ bs) (p ∷ ps) (true ∷ gs) → NoLater R (rank (p ∷ ps) (true ∷ gs)))
      → ((gs : List Bool) → Short limit n (b ∷ bs) (p ∷ ps) (false ∷ gs) → NoLater R (rank (p ∷ ps) (false ∷ gs)))
      → (gs : List Bool) → Short limit n (b ∷ bs) (p ∷ ps) gs → NoLater R (rank (p ∷ ps) gs)
  by_head R cutting staying [] a = subst (λ (k : ℕ). NoLater R (k ∷ (0 ∷ map mark (flags_at ps [])))) (cost-none ps) (staying [] a)
  by_head R cutting staying (true ∷ gs) a = cutting gs a
  by_head R cutting staying (false ∷ gs) a = staying gs a

  -- the region goes on at p, and nothing that ends it there is better
  stay_chosen : (s : Cuts) (h : Chosen limit (n + b) (e + 1) bs ps s)
      → ((gs : List Bool) → Short limit n (b ∷ bs) (p ∷ ps) (true ∷ gs) → NoLater (rank (p ∷ ps) (false ∷ h.fs)) (rank (p ∷ ps) (true ∷ gs)))
      → Chosen limit n e (b ∷ bs) (p ∷ ps) s
  stay_chosen s h cutting =
      record {
        fs = false ∷ h.fs;
        flags_are = h.flags_are ∙ ap (λ k. replicate k false ++ h.fs) (add-one e) ∙ falses_more e h.fs;
        cost_is = h.cost_is;
        at_points_lem = h.at_points_lem;
        short = h.short;
        least = by_head (rank (p ∷ ps) (false ∷ h.fs)) cutting (λ gs a. let better = h.least gs a in grind arith);
      }

  -- the region ends at p, and nothing that goes on there is better
  cut_chosen : (c : Cuts) (h : Chosen limit (p + b) (e + 1) bs ps c) → Within limit n
      → ((gs : List Bool) → Short limit n (b ∷ bs) (p ∷ ps) (false ∷ gs) → NoLater (rank (p ∷ ps) (true ∷ h.fs)) (rank (p ∷ ps) (false ∷ gs)))
      → Answer limit n e (b ∷ bs) (p ∷ ps) (with_cut e p (Some c))
  cut_chosen c h w staying =
      record {
        fs = true ∷ h.fs;
        flags_are = ap (λ l. set l e true) (h.flags_are ∙ ap (λ k. replicate k false ++ h.fs) (add-one e)) ∙ falses_set e h.fs;
        cost_is = omega (arith, h.cost_is);
        at_points_lem = h.at_points_lem;
        short = (w, h.short);
        least = by_head (rank (p ∷ ps) (true ∷ h.fs)) (λ gs a. let better = h.least gs a.1 in grind arith) staying;
      }

  -- no cut at p is allowed
  only_stay : (os : Option Cuts) → ((gs : List Bool) → Short limit n (b ∷ bs) (p ∷ ps) (true ∷ gs) → ⊥) → Answer limit (n + b) (e + 1) bs ps os → Answer limit n e (b ∷ bs) (p ∷ ps) os
  only_stay None never h = go
    where
      go : (gs : List Bool) → Short limit n (b ∷ bs) (p ∷ ps) gs → ⊥
      go [] a = h [] a
      go (true ∷ gs) a = never gs a
      go (false ∷ gs) a = h gs a
  only_stay (Some s) never h = stay_chosen s h (λ gs a. absurd (never gs a))

  step : (v : Bool) → within limit n ≡ v → (oc os : Option Cuts) → Answer limit (p + b) (e + 1) bs ps oc → Answer limit (n + b) (e + 1) bs ps os
      → Answer limit n e (b ∷ bs) (p ∷ ps) (cheaper_of (cond v (with_cut e p oc) None) os)
  step false is oc os h k = only_stay os (λ gs a. within_false limit n is a.0) k
  step true is None os h k = only_stay os (λ gs a. h gs a.1) k
  step true is (Some c) None h k = cut_chosen c h (within_true limit n is) (λ gs a. absurd (k gs a))
  step true is (Some c) (Some s) h k =
      cond_both (leb s.cost (c.cost + p)) (Some s) (with_cut e p (Some c)) (Answer limit n e (b ∷ bs) (p ∷ ps))
      (λ le. stay_chosen s k (λ gs a. let cut = h.least gs a.1 in let no_dearer = leb-true s.cost (c.cost + p) le in grind arith))
      (λ gt. cut_chosen c h (within_true limit n is) (λ gs a. let stay = k.least gs a in let dearer = leb-false s.cost (c.cost + p) gt in grind arith))

pub best_chosen : (limit : Option ℕ) (n e : ℕ) (bs ps : List ℕ) → length bs ≡ length ps → e + length ps ≤ 15 → Answer limit n e bs ps (best_from limit n e bs ps)
best_chosen limit n e [] [] m l =
    cond_both (within limit n) (Some uncut) None (Answer limit n e [] [])
    (λ is. record {
      fs = replicate (15 - e) false;
      flags_are = ap (λ k. replicate k false) whole ∙ sym (replicate-append-replicate e (15 - e) false);
      cost_is = refl;
      at_points_lem = beyond_falses (15 - e);
      short = (within_true limit n is, tt);
      least = λ gs a. inr (refl, tt);
    })
    (λ is gs a. within_false limit n is a.0)
  where
    whole : 15 ≡ e + (15 - e)
    whole = omega arith
best_chosen limit n e [] (p ∷ ps) m l = absurd (omega arith)
best_chosen limit n e (b ∷ bs) [] m l = absurd (omega arith)
best_chosen limit n e (b ∷ bs) (p ∷ ps) m l =
    step limit n e b p bs ps (within limit n) refl (best_from limit (p + b) (e + 1) bs ps) (best_from limit (n + b) (e + 1) bs ps)
    (best_chosen limit (p + b) (e + 1) bs ps (omega arith) (omega arith)) (best_chosen limit (n + b) (e + 1) bs ps (omega arith) (omega arith))

-- The order of flags is the order of reaches. Assumes nothing.
use Rattle.std.proofs.Common.{◌≡◌, ℕ, suc, ◌+◌, ◌<◌, Bool, true, false, ◌⊎◌, List, [], ◌∷◌, map, length, get_or, drop, sym, refl, ap, ◌∙◌, inl, inr, arith}
use Rattle.std.proofs.lemmas.List.{length-drop}
use Rattle.tasks.specs.Cuts.{regions_from, cut_cost}
use Rattle.cuts.specs.Orders.{NoLater, mark}
use Rattle.cuts.specs.Allowed.{flags_at}
use Rattle.cuts.specs.Reach.{reaches_from, reaches, AsFar, OneReachEach, FlagsOrderIsReach, ChosenReachFurthest}
use Rattle.cuts.proofs.Ranges.{ranges}
use Rattle.cuts.proofs.Steps.{regions-start}

length_flags : (ps : List ℕ) (fs : List Bool) → length (flags_at ps fs) ≡ length ps
length_flags [] fs = refl
length_flags (p ∷ ps) [] = ap suc (length_flags ps [])
length_flags (p ∷ ps) (f ∷ fs) = ap suc (length_flags ps fs)

-- what reaches k or more is further than what ends before
ahead : (j k : ℕ) (fs : List Bool) (ys : List ℕ) → j < k → AsFar (reaches_from k fs) (j ∷ ys)
ahead j k [] ys h = inl h
ahead j k (false ∷ fs) ys h = ahead j (k + 1) fs ys (omega arith)
ahead j k (true ∷ fs) ys h = inl h

not_behind : (j k : ℕ) (fs : List Bool) (ys : List ℕ) → j < k → AsFar (j ∷ ys) (reaches_from k fs) → ⊥
not_behind j k [] ys h a = grind arith
not_behind j k (false ∷ fs) ys h a = not_behind j (k + 1) fs ys (omega arith) a
not_behind j k (true ∷ fs) ys h a = grind arith

reach_from_order : (k : ℕ) (fs gs : List Bool) → length fs ≡ length gs → NoLater (map mark fs) (map mark gs) → AsFar (reaches_from k fs) (reaches_from k gs)
reach_from_order k [] [] m o = inr (refl, tt)
reach_from_order k [] (g ∷ gs) m o = absurd (omega arith)
reach_from_order k (f ∷ fs) [] m o = absurd (omega arith)
reach_from_order k (false ∷ fs) (false ∷ gs) m o = reach_from_order (k + 1) fs gs (omega arith) (grind arith)
reach_from_order k (false ∷ fs) (true ∷ gs) m o = ahead k (k + 1) fs (reaches_from (k + 1) gs) (omega arith)
reach_from_order k (true ∷ fs) (false ∷ gs) m o = absurd (grind arith)
reach_from_order k (true ∷ fs) (true ∷ gs) m o = inr (refl, reach_from_order (k + 1) fs gs (omega arith) (grind arith))

order_from_reach : (k : ℕ) (fs gs : List Bool) → length fs ≡ length gs → AsFar (reaches_from k fs) (reaches_from k gs) → NoLater (map mark fs) (map mark gs)
order_from_reach k [] gs m a = tt
order_from_reach k (f ∷ fs) [] m a = absurd (omega arith)
order_from_reach k (false ∷ fs) (false ∷ gs) m a = inr (refl, order_from_reach (k + 1) fs gs (omega arith) a)
order_from_reach k (false ∷ fs) (true ∷ gs) m a = inl (omega arith)
order_from_reach k (true ∷ fs) (false ∷ gs) m a = absurd (not_behind k (k + 1) gs (reaches_from (k + 1) fs) (omega arith) a)
order_from_reach k (true ∷ fs) (true ∷ gs) m a = inr (refl, order_from_reach (k + 1) fs gs (omega arith) (grind arith))

pub flags_order_is_reach_lem : FlagsOrderIsReach
flags_order_is_reach_lem t cuts others =
    let same = length_flags t.points cuts ∙ sym (length_flags t.points others) in
    (reach_from_order 1 (flags_at t.points cuts) (flags_at t.points others) same, order_from_reach 1 (flags_at t.points cuts) (flags_at t.points others) same)

pub chosen_reach_furthest : ChosenReachFurthest
chosen_reach_furthest limit t cuts others h a = go (h.least others a)
  where
    go : NoLater (cut_cost t cuts ∷ map mark (flags_at t.points cuts)) (cut_cost t others ∷ map mark (flags_at t.points others))
        → (cut_cost t cuts < cut_cost t others) ⊎ ((cut_cost t cuts ≡ cut_cost t others) × AsFar (reaches t cuts) (reaches t others))
    go (inl l) = inl l
    go (inr e) = inr (e.0, (flags_order_is_reach_lem t cuts others).0 e.1)

reach_each : (n k : ℕ) (bs ps : List ℕ) (fs : List Bool) → length bs ≡ length ps → length (reaches_from k (flags_at ps fs)) ≡ length (regions_from n bs ps fs)
reach_each n k [] [] fs m = refl
reach_each n k [] (p ∷ ps) fs m = absurd (omega arith)
reach_each n k (b ∷ bs) [] fs m = absurd (omega arith)
reach_each n k (b ∷ bs) (p ∷ ps) [] m = reach_each (n + b) (k + 1) bs ps [] (omega arith)
reach_each n k (b ∷ bs) (p ∷ ps) (false ∷ fs) m = reach_each (n + b) (k + 1) bs ps fs (omega arith)
reach_each n k (b ∷ bs) (p ∷ ps) (true ∷ fs) m = ap suc (reach_each (p + b) (k + 1) bs ps fs (omega arith))

pub one_reach_each : OneReachEach
one_reach_each t cuts h =
    let r = ranges t h in
    reach_each (get_or t.blocks 0 0) 1 (drop 1 t.blocks) t.points cuts (omega (arith, length-drop 1 t.blocks, r.fewer))
    ∙ ap length (regions-start t.blocks t.points cuts r.some)

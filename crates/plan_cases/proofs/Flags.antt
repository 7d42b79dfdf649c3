-- The chosen cuts of a task that needs no cut, or has one point. Assumes nothing.
use Rattle.std.proofs.Common.{◌≡◌, ℕ, zero, suc, ◌+◌, Bool, true, false, List, [], ◌∷◌, map, Option, refl, inl, inr, arith}
use Rattle.tasks.specs.Tasks.{Task, every}
use Rattle.tasks.specs.Cuts.{regions, cost_at}
use Rattle.cuts.specs.Orders.{NoLater, mark}
use Rattle.cuts.specs.Allowed.{flags_at, cut_beyond, within, Allowed, cut_rank, LeastCuts}
use Rattle.cuts.proofs.Limits.{within_false, every-within_true, every-within_false}
use Rattle.optimality.proofs.Order.{no_later_same}
use Rattle.plan_cases.specs.Cases.{task}

-- no cut at any point
abbrev pub uncut : List ℕ → List Bool
uncut ps = map (λ p. false) ps

uncut_points : (ps : List ℕ) → cut_beyond ps (uncut ps) ≡ false
uncut_points [] = refl
uncut_points (p ∷ ps) = uncut_points ps

uncut-cost : (ps : List ℕ) → cost_at ps (uncut ps) ≡ 0
uncut-cost [] = refl
uncut-cost (p ∷ ps) = uncut-cost ps

uncut-marks : (ps : List ℕ) (fs : List Bool) → NoLater (map mark (flags_at ps (uncut ps))) (map mark (flags_at ps fs))
uncut-marks [] fs = tt
uncut-marks (p ∷ ps) [] = inr (refl, uncut-marks ps [])
uncut-marks (p ∷ ps) (false ∷ fs) = inr (refl, uncut-marks ps fs)
uncut-marks (p ∷ ps) (true ∷ fs) = inl (omega arith)

later : (n k : ℕ) (xs ys : List ℕ) → n ≡ 0 → NoLater xs ys → NoLater (n ∷ xs) (k ∷ ys)
later n zero xs ys e d = inr (e, d)
later n (suc k) xs ys e d = inl (omega arith)

-- where no cut is needed, none is chosen
pub uncut-least : (limit : Option ℕ) (t : Task) → every (within limit) (regions t (uncut t.points)) ≡ true → LeastCuts limit t (uncut t.points)
uncut-least limit t e =
    let ps = t.points in
    record {
      allowed = record { at_points = uncut_points ps; short = every-within_true limit (regions t (uncut ps)) e };
      least = λ others a. later (cost_at ps (uncut ps)) (cost_at ps others) (map mark (flags_at ps (uncut ps))) (map mark (flags_at ps others)) (uncut-cost ps) (uncut-marks ps others);
    }

-- one block that is too long
pub too_long : (limit : Option ℕ) (id period deadline b : ℕ) → within limit b ≡ false → (cuts : List Bool) → Allowed limit (task id period deadline (b ∷ []) []) cuts → ⊥
too_long limit id period deadline b e cuts a = within_false limit b e a.short.0

-- two blocks, too long together
module _ (limit : Option ℕ) (id period deadline b c p : ℕ) (long : within limit (b + c) ≡ false) where
  abbrev t : Task
  t = task id period deadline (b ∷ c ∷ []) (p ∷ [])

  -- the cut is chosen where both regions are short enough
  pub cut_least : every (within limit) (b ∷ (p + c) ∷ []) ≡ true → LeastCuts limit t (true ∷ [])
  cut_least e = record { allowed = record { at_points = refl; short = every-within_true limit (b ∷ (p + c) ∷ []) e }; least = least }
    where
      least : (others : List Bool) → Allowed limit t others → NoLater (cut_rank t (true ∷ [])) (cut_rank t others)
      least [] a = absurd (within_false limit (b + c) long a.short.0)
      least (false ∷ fs) a = absurd (within_false limit (b + c) long a.short.0)
      least (true ∷ fs) a = no_later_same ((p + 0) ∷ 1 ∷ [])

  -- and else no cuts are allowed
  pub stuck : every (within limit) (b ∷ (p + c) ∷ []) ≡ false → (cuts : List Bool) → Allowed limit t cuts → ⊥
  stuck e [] a = within_false limit (b + c) long a.short.0
  stuck e (false ∷ fs) a = within_false limit (b + c) long a.short.0
  stuck e (true ∷ fs) a = every-within_false limit (b ∷ (p + c) ∷ []) e a.short

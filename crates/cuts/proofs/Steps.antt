-- Costs, flags and regions as the library's methods find them. Assumes nothing.
use Rattle.std.proofs.Common.{◌≡◌, ℕ, ◌+◌, ◌≤◌, Bool, true, false, ◌||◌, List, [], ◌∷◌, length, get_or, drop, sum, sym, refl, ap, ◌∙◌, arith}
use Rattle.std.specs.List.{zip, filter_map, list_any}
use Rattle.std.specs.Bool.{then_some}
use Rattle.std.proofs.lemmas.List.Sums.{sum_by-cons}
use Rattle.cuts.specs.Regions.{regions_of}
use Rattle.tasks.specs.Cuts.{cost_at, regions_from}
use Rattle.cuts.specs.Allowed.{cut_beyond}

-- the flags after those of the points are all that counts
pub beyond_any : (ps : List ℕ) (fs : List Bool) → cut_beyond ps fs ≡ list_any (λ f. f) (drop (length ps) fs)
beyond_any [] [] = refl
beyond_any (p ∷ ps) [] = refl
beyond_any [] (f ∷ fs) = ap (λ b. f || b) (beyond_any [] fs)
beyond_any (p ∷ ps) (f ∷ fs) = beyond_any ps fs

-- what the cuts cost is a sum over the points that are cut
pub cost_sum : (ps : List ℕ) (fs : List Bool) → cost_at ps fs ≡ sum (filter_map (λ p. then_some p.1 p.0) (zip ps fs))
cost_sum [] fs = refl
cost_sum (p ∷ ps) [] = refl
cost_sum (p ∷ ps) (false ∷ fs) = cost_sum ps fs
cost_sum (p ∷ ps) (true ∷ fs) = ap (λ n. p + n) (cost_sum ps fs) ∙ sym (sum_by-cons (λ n. n) p (filter_map (λ p. then_some p.1 p.0) (zip ps fs)))

pub regions-start : (bs ps : List ℕ) (fs : List Bool) → 1 ≤ length bs → regions_from (get_or bs 0 0) (drop 1 bs) ps fs ≡ regions_of bs ps fs
regions-start [] ps fs h = absurd (omega arith)
regions-start (b ∷ bs) ps fs h = refl

-- Costs and regions, one point further on in blocks, points and flags. Assumes nothing.
use Rattle.std.proofs.Common.{◌≡◌, ℕ, ◌+◌, ◌<◌, Bool, true, false, ◌||◌, List, [], ◌∷◌, length, get_or, drop, refl, ap, ◌∙◌}
use Rattle.std.proofs.lemmas.List.{drop_more}
use Rattle.tasks.specs.Cuts.{cost_at, regions_from}
use Rattle.cuts.specs.Allowed.{cut_beyond}

module _ (ps : List ℕ) (fs : List Bool) (j : ℕ) (h : j < length ps) (k : j < length fs) where
  cost_at_point : cost_at (drop j ps) (drop j fs) ≡ cost_at (get_or ps j 0 ∷ drop (j + 1) ps) (get_or fs j false ∷ drop (j + 1) fs)
  cost_at_point i = cost_at (drop_more ps j 0 h i) (drop_more fs j false k i)

  pub cost_cut : get_or fs j false ≡ true → cost_at (drop j ps) (drop j fs) ≡ get_or ps j 0 + cost_at (drop (j + 1) ps) (drop (j + 1) fs)
  cost_cut e = cost_at_point ∙ ap (λ f. cost_at (get_or ps j 0 ∷ drop (j + 1) ps) (f ∷ drop (j + 1) fs)) e

  pub cost-on : get_or fs j false ≡ false → cost_at (drop j ps) (drop j fs) ≡ cost_at (drop (j + 1) ps) (drop (j + 1) fs)
  cost-on e = cost_at_point ∙ ap (λ f. cost_at (get_or ps j 0 ∷ drop (j + 1) ps) (f ∷ drop (j + 1) fs)) e

module _ (bs ps : List ℕ) (fs : List Bool) (n j : ℕ) (h : j + 1 < length bs) (k : j < length ps) (l : j < length fs) where
  at_point : regions_from n (drop (j + 1) bs) (drop j ps) (drop j fs) ≡ regions_from n (get_or bs (j + 1) 0 ∷ drop (j + 1 + 1) bs) (get_or ps j 0 ∷ drop (j + 1) ps) (get_or fs j false ∷ drop (j + 1) fs)
  at_point i = regions_from n (drop_more bs (j + 1) 0 h i) (drop_more ps j 0 k i) (drop_more fs j false l i)

  pub regions_cut : get_or fs j false ≡ true → regions_from n (drop (j + 1) bs) (drop j ps) (drop j fs) ≡ n ∷ regions_from (get_or ps j 0 + get_or bs (j + 1) 0) (drop (j + 1 + 1) bs) (drop (j + 1) ps) (drop (j + 1) fs)
  regions_cut e = at_point ∙ ap (λ f. regions_from n (get_or bs (j + 1) 0 ∷ drop (j + 1 + 1) bs) (get_or ps j 0 ∷ drop (j + 1) ps) (f ∷ drop (j + 1) fs)) e

  pub regions-on : get_or fs j false ≡ false → regions_from n (drop (j + 1) bs) (drop j ps) (drop j fs) ≡ regions_from (n + get_or bs (j + 1) 0) (drop (j + 1 + 1) bs) (drop (j + 1) ps) (drop (j + 1) fs)
  regions-on e = at_point ∙ ap (λ f. regions_from n (get_or bs (j + 1) 0 ∷ drop (j + 1 + 1) bs) (get_or ps j 0 ∷ drop (j + 1) ps) (f ∷ drop (j + 1) fs)) e

-- the flags after those of the points are all that counts
pub beyond_drop : (ps : List ℕ) (fs : List Bool) → cut_beyond ps fs ≡ cut_beyond [] (drop (length ps) fs)
beyond_drop [] [] = refl
beyond_drop (p ∷ ps) [] = refl
beyond_drop [] (f ∷ fs) = refl
beyond_drop (p ∷ ps) (f ∷ fs) = beyond_drop ps fs

pub beyond_more : (fs : List Bool) (j : ℕ) → j < length fs → cut_beyond [] (drop j fs) ≡ (get_or fs j false || cut_beyond [] (drop (j + 1) fs))
beyond_more fs j h = ap (cut_beyond []) (drop_more fs j false h)

-- How the cut selection goes: backward over the points of a task.
-- The flags of a partial answer stand at the places of their points, counted from 0, and all others are false.
use Rattle.std.specs.Prelude.{◌≡◌, ℕ, ◌+◌, ◌<◌, ◌≤◌, true, false, cond, List, [], ◌∷◌, length, drop, replicate, Some, None, Option, nat_le, slice_index, slice_index_or, slice_set}
use Rattle.tasks.specs.Tasks.{Task}
use Rattle.cuts.specs.declared.types.Cuts.{Cuts}
use Rattle.cuts.specs.Allowed.{within}

-- the cheaper, and the second of two that cost the same
abbrev pub cheaper_of : Option Cuts → Option Cuts → Option Cuts
cheaper_of None b = b
cheaper_of (Some a) None = Some a
cheaper_of (Some a) (Some b) = cond (nat_le b.cost a.cost) (Some b) (Some a)

-- with a cut at point e, which costs p
abbrev pub with_cut : ℕ → ℕ → Option Cuts → Option Cuts
with_cut e p None = None
with_cut e p (Some a) = Some (record { cost = a.cost + p; flags = slice_set a.flags e true })

abbrev pub uncut : Cuts
uncut = record { cost = 0; flags = replicate 15 false }

-- The best cuts from point e on, where the region under way is n long before it.
-- ps are the points from there on, and bs the blocks after them: the region ends at the first point, if the limit lets it, or goes on.
abbrev pub best_from : Option ℕ → ℕ → ℕ → List ℕ → List ℕ → Option Cuts
best_from limit n e [] ps = cond (within limit n) (Some uncut) None
best_from limit n e (b ∷ bs) [] = None
best_from limit n e (b ∷ bs) (p ∷ ps) = cheaper_of (cond (within limit n) (with_cut e p (best_from limit (p + b) (e + 1) bs ps)) None) (best_from limit (n + b) (e + 1) bs ps)

-- the same of a task
abbrev pub best_at : Option ℕ → Task → ℕ → ℕ → Option Cuts
best_at limit t n e = best_from limit n e (drop (e + 1) t.blocks) (drop e t.points)

-- the best cuts from point e on with a cut there
abbrev pub best_cut_at : Option ℕ → Task → ℕ → Option Cuts
best_cut_at limit t e = with_cut e (slice_index t.points e) (best_at limit t (slice_index t.points e + slice_index t.blocks (e + 1)) (e + 1))

-- the memo has the best cuts with a cut there, for every point from j on
abbrev pub Known : Option ℕ → Task → List (Option Cuts) → ℕ → Type 0
Known limit t memo j = (e : ℕ) → j ≤ e → e < length t.points → slice_index_or memo e None ≡ best_cut_at limit t e

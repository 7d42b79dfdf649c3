-- A walk over the regions of a task starts within its bounds, and is no longer than the row of blocks. Assumes nothing.
use Rattle.std.proofs.Common.{◌≡◌, ℕ, ◌+◌, ◌≤◌, Bool, true, false, List, [], ◌∷◌, length, get_or, drop, Bor, Some, None, Option, MatchOption, ap, arith}
use Rattle.std.specs.Option.{option_copied}
use Rattle.std.proofs.lemmas.List.{length-drop}
use Rattle.tasks.specs.Tasks.{Task, in_range}
use Rattle.tasks.specs.Cuts.{regions_from, regions, total}
use Rattle.cuts.specs.Regions.{Fits}
use Rattle.cuts.proofs.Ranges.{ranges, total_at_most}
use Rattle.cuts.proofs.Steps.{regions-start}

pub fits_first : (t : Task) (X : Type 0) (first : Option (Bor ℕ)) (blocks rest bs ps : List ℕ) (fs : List Bool) → in_range t ≡ true
    → blocks ≡ t.blocks → MatchOption first X (λ b. blocks ≡ b.now ∷ rest) → bs ≡ rest → ps ≡ t.points → length fs ≡ 15 → Fits (option_copied first) bs ps fs
fits_first t X None blocks rest bs ps fs h whole step at points flags = tt
fits_first t X (Some b) blocks rest bs ps fs h whole step at points flags =
    let r = ranges t h in (
      omega (arith, ap length step, ap length whole, ap length at, ap length points, r.fewer),
      omega (arith, ap length step, ap length whole, ap length at, r.few),
      omega (arith, ap total step, ap total whole, ap total at, ap total points, total_at_most t.blocks r.lengths, total_at_most t.points r.costs, r.few, r.fewer),
    )

at_most_each : (n : ℕ) (bs ps : List ℕ) (fs : List Bool) → length (regions_from n bs ps fs) ≤ length bs + 1
at_most_each n [] ps fs = omega arith
at_most_each n (b ∷ bs) [] fs = omega (arith, at_most_each (n + b) bs [] [])
at_most_each n (b ∷ bs) (p ∷ ps) [] = omega (arith, at_most_each (n + b) bs ps [])
at_most_each n (b ∷ bs) (p ∷ ps) (false ∷ fs) = omega (arith, at_most_each (n + b) bs ps fs)
at_most_each n (b ∷ bs) (p ∷ ps) (true ∷ fs) = omega (arith, at_most_each (p + b) bs ps fs)

-- a task has no more regions than blocks
pub regions_few : (t : Task) (cuts : List Bool) → in_range t ≡ true → length (regions t cuts) ≤ 16
regions_few t cuts h =
    let r = ranges t h in
    omega (arith, ap length (regions-start t.blocks t.points cuts r.some), at_most_each (get_or t.blocks 0 0) (drop 1 t.blocks) t.points cuts, length-drop 1 t.blocks, r.few)

-- The regions of a task in range: there is one, none is empty, and they add up to the load. Assumes nothing.
use Rattle.std.proofs.Common.{◌≡◌, ℕ, ◌+◌, ◌<◌, ◌≤◌, Bool, true, false, leb, List, [], ◌∷◌, length, refl, arith}
use Rattle.std.specs.List.{AllByRecursion}
use Rattle.std.proofs.lemmas.Bool.{and_parts, leb-true}
use Rattle.tasks.specs.Tasks.{Task, between, every, in_range, points_match}
use Rattle.cuts.specs.Regions.{regions_of}
use Rattle.tasks.specs.Cuts.{regions_from, regions, cost_at, total, load}
use Rattle.cuts.proofs.Ranges.{ranges}

-- the period and the deadline of a task in range, and that its blocks have a length
pub record Times (t : Task) : Type 0 where
  pub low : 1 ≤ t.deadline
  pub high : t.deadline ≤ t.period
  pub short : t.period ≤ 1000000
  pub lengths : AllByRecursion (λ n. 1 ≤ n) t.blocks

between_is : (low high n : ℕ) → between low high n ≡ true → (low ≤ n) × (n ≤ high)
between_is low high n h = let a = and_parts (leb low n) (leb n high) h in (leb-true low n a.0, leb-true n high a.1)

every_low : (low high : ℕ) (ns : List ℕ) → every (between low high) ns ≡ true → AllByRecursion (λ n. low ≤ n) ns
every_low low high [] h = tt
every_low low high (n ∷ ns) h =
    let hs = and_parts (between low high n) (every (between low high) ns) h in
    ((between_is low high n hs.0).0, every_low low high ns hs.1)

pub times : (t : Task) → in_range t ≡ true → Times t
times t h =
    let a = and_parts (between 1 9999999 t.id) _ h in
    let b = and_parts (between 1 1000000 t.period) _ a.1 in
    let c = and_parts (between 1 t.period t.deadline) _ b.1 in
    let d = and_parts (points_match t) _ c.1 in
    let e = and_parts (every (between 1 1000000) t.blocks) (every (between 0 1000000) t.points) d.1 in
    record {
      low = (between_is 1 t.period t.deadline c.0).0;
      high = (between_is 1 t.period t.deadline c.0).1;
      short = (between_is 1 1000000 t.period b.0).1;
      lengths = every_low 1 1000000 t.blocks e.0;
    }

from-total : (n : ℕ) (bs ps : List ℕ) (cuts : List Bool) → length ps ≡ length bs → total (regions_from n bs ps cuts) ≡ n + (total bs + cost_at ps cuts)
from-total n [] [] cuts h = omega arith
from-total n [] (p ∷ ps) cuts h = absurd (omega arith)
from-total n (b ∷ bs) [] cuts h = absurd (omega arith)
from-total n (b ∷ bs) (p ∷ ps) [] h = omega (arith, from-total (n + b) bs ps [] (omega arith), no_cuts ps)
  where
    no_cuts : (qs : List ℕ) → cost_at qs [] ≡ 0
    no_cuts [] = refl
    no_cuts (q ∷ qs) = refl
from-total n (b ∷ bs) (p ∷ ps) (false ∷ cuts) h = omega (arith, from-total (n + b) bs ps cuts (omega arith))
from-total n (b ∷ bs) (p ∷ ps) (true ∷ cuts) h = omega (arith, from-total (p + b) bs ps cuts (omega arith))

from_some : (n : ℕ) (bs ps : List ℕ) (cuts : List Bool) → 0 < length (regions_from n bs ps cuts)
from_some n [] ps cuts = omega arith
from_some n (b ∷ bs) [] cuts = from_some (n + b) bs [] []
from_some n (b ∷ bs) (p ∷ ps) [] = from_some (n + b) bs ps []
from_some n (b ∷ bs) (p ∷ ps) (false ∷ cuts) = from_some (n + b) bs ps cuts
from_some n (b ∷ bs) (p ∷ ps) (true ∷ cuts) = omega arith

from-none_empty : (n : ℕ) (bs ps : List ℕ) (cuts : List Bool) → 1 ≤ n → AllByRecursion (λ m. 1 ≤ m) bs → AllByRecursion (λ m. 1 ≤ m) (regions_from n bs ps cuts)
from-none_empty n [] ps cuts h a = (h, tt)
from-none_empty n (b ∷ bs) [] cuts h a = from-none_empty (n + b) bs [] [] (omega arith) a.1
from-none_empty n (b ∷ bs) (p ∷ ps) [] h a = from-none_empty (n + b) bs ps [] (omega arith) a.1
from-none_empty n (b ∷ bs) (p ∷ ps) (false ∷ cuts) h a = from-none_empty (n + b) bs ps cuts (omega arith) a.1
from-none_empty n (b ∷ bs) (p ∷ ps) (true ∷ cuts) h a = (h, from-none_empty (p + b) bs ps cuts (omega (arith, a.0)) a.1)

of_total : (bs ps : List ℕ) (cuts : List Bool) → length ps + 1 ≡ length bs → total (regions_of bs ps cuts) ≡ total bs + cost_at ps cuts
of_total [] ps cuts h = absurd (omega arith)
of_total (b ∷ bs) ps cuts h = omega (arith, from-total b bs ps cuts (omega arith))

of_some : (bs ps : List ℕ) (cuts : List Bool) → 1 ≤ length bs → 0 < length (regions_of bs ps cuts)
of_some [] ps cuts h = absurd (omega arith)
of_some (b ∷ bs) ps cuts h = from_some b bs ps cuts

of_none_empty : (bs ps : List ℕ) (cuts : List Bool) → AllByRecursion (λ m. 1 ≤ m) bs → AllByRecursion (λ m. 1 ≤ m) (regions_of bs ps cuts)
of_none_empty [] ps cuts a = tt
of_none_empty (b ∷ bs) ps cuts a = from-none_empty b bs ps cuts a.0 a.1

module _ (t : Task) (cuts : List Bool) (h : in_range t ≡ true) where
  pub regions-total : total (regions t cuts) ≡ load t cuts
  regions-total = of_total t.blocks t.points cuts (ranges t h).fewer

  pub regions_some : 0 < length (regions t cuts)
  regions_some = of_some t.blocks t.points cuts (ranges t h).some

  pub regions-none_empty : AllByRecursion (λ n. 1 ≤ n) (regions t cuts)
  regions-none_empty = of_none_empty t.blocks t.points cuts (times t h).lengths

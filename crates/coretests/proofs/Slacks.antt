-- The least slack is the least. Assumes nothing.
use Rattle.std.proofs.Common.{◌≡◌, ℕ, zero, suc, ◌+◌, ◌-◌, ◌<◌, ◌≤◌, List, ◌∷◌, Some, None, Option, refl, ap, ⊎_elim, arith}
use Rattle.std.proofs.lemmas.Bool.{cases_lt}
use Rattle.coretests.specs.declared.entry.Entry.{Entry}
use Rattle.coretests.specs.Limits.{lesser, least}
use Rattle.coretests.specs.Edf.{slack, least_slack}
use Rattle.coretests.specs.Meanings.{LeastSlackFrom, LeastSlackIsLeast}

-- the answer is the least of `count` values, or there is no value
abbrev Least : (ℕ → ℕ) → ℕ → ℕ → Option ℕ → Type 0
Least f start count None = count ≡ 0
Least f start count (Some b) = ((t : ℕ) × (start ≤ t) × (t < start + count) × (f t ≡ b)) × ((t : ℕ) → start ≤ t → t < start + count → b ≤ f t)

least_more : (f : ℕ → ℕ) (start count : ℕ) (o : Option ℕ) → Least f start count o → Least f start (suc count) (lesser o (Some (f (start + count))))
least_more f start count None h =
    ((start + count, omega arith, omega arith, refl), λ t a b. let is : f t ≡ f (start + count) = ap f (omega arith) in omega arith)
least_more f start count (Some b) h =
    let v = f (start + count) in (
      ⊎_elim
          (λ (l : b < v). let at = h.0 in (at.0, at.1, omega (arith, at.2), omega (arith, at.3)))
          (λ (l : v ≤ b). (start + count, omega arith, omega arith, omega arith))
          (cases_lt b v),
      λ t low high.
          ⊎_elim
          (λ (l : t < start + count). omega (arith, h.1 t low l))
          (λ (l : start + count ≤ t). let is : f t ≡ f (start + count) = ap f (omega arith) in omega arith)
          (cases_lt t (start + count)),
    )

least_is : (f : ℕ → ℕ) (start count : ℕ) → Least f start count (least f start count)
least_is f start zero = refl
least_is f start (suc count) = least_more f start count (least f start count) (least_is f start count)

from-least : (xs : List Entry) (low d : ℕ) (o : Option ℕ) → Least (slack xs) low (d - low) o → LeastSlackFrom low xs d o
from-least xs low d None h = omega arith
from-least xs low d (Some b) h = (let at = h.0 in (at.0, at.1, omega (arith, at.1, at.2), at.3), λ t u v. h.1 t u (omega arith))

pub least-slack_is_least : LeastSlackIsLeast
least-slack_is_least e es d = from-least (e ∷ es) e.deadline d (least_slack (e ∷ es) d) (least_is (slack (e ∷ es)) e.deadline (d - e.deadline))

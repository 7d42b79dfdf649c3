-- Facts on limits. Assumes nothing.
use Rattle.std.specs.Prelude.{◌≡◌, ℕ, zero, suc, ◌+◌, ◌<◌, ◌≤◌, Some, None, Option}
use Rattle.std.proofs.Common.{ap, ◌∙◌, ⊎_elim, add-zero, add-suc, arith}
use Rattle.std.proofs.lemmas.Bool.{cases_lt}
use Rattle.coretests.specs.Limits.{lesser, AtMost, least}

pub at_most_zero : (o : Option ℕ) → AtMost (Some 0) o
at_most_zero None = tt
at_most_zero (Some n) = omega arith

pub lesser_mono : (a b c d : Option ℕ) → AtMost a c → AtMost b d → AtMost (lesser a b) (lesser c d)
lesser_mono None b None d h k = k
lesser_mono None b (Some c) d h k = absurd h
lesser_mono (Some a) None None None h k = tt
lesser_mono (Some a) None None (Some d) h k = absurd k
lesser_mono (Some a) (Some b) None None h k = tt
lesser_mono (Some a) (Some b) None (Some d) h k = omega arith
lesser_mono (Some a) None (Some c) None h k = h
lesser_mono (Some a) None (Some c) (Some d) h k = absurd k
lesser_mono (Some a) (Some b) (Some c) None h k = omega arith
lesser_mono (Some a) (Some b) (Some c) (Some d) h k = omega arith

pub least_mono : (f g : ℕ → ℕ) (start count : ℕ) → ((t : ℕ) → f t ≤ g t) → AtMost (least f start count) (least g start count)
least_mono f g start zero h = tt
least_mono f g start (suc count) h =
    lesser_mono (least f start count) (Some (f (start + count))) (least g start count) (Some (g (start + count))) (least_mono f g start count h) (h (start + count))

-- what is no lessened than b adds nothing to b
lesser_past : (b c : ℕ) (o : Option ℕ) → b ≤ c → lesser (Some b) (lesser o (Some c)) ≡ lesser (Some b) o
lesser_past b c None h = ap Some (omega arith)
lesser_past b c (Some a) h = ap Some (omega arith)

pub least_skip : (f : ℕ → ℕ) (start n k b : ℕ) → ((t : ℕ) → start + n ≤ t → t < start + (n + k) → b ≤ f t)
    → lesser (Some b) (least f start (n + k)) ≡ lesser (Some b) (least f start n)
least_skip f start n zero b h = ap (λ m. lesser (Some b) (least f start m)) (add-zero n)
least_skip f start n (suc k) b h =
    ap (λ m. lesser (Some b) (least f start m)) (add-suc n k)
    ∙ lesser_past b (f (start + (n + k))) (least f start (n + k)) (h (start + (n + k)) (omega arith) (omega arith))
    ∙ least_skip f start n k b (λ t u v. h t u (omega arith))

lesser_left : (o : Option ℕ) (m n : ℕ) → AtMost o (Some n) → AtMost (lesser o (Some m)) (Some n)
lesser_left None m n h = absurd h
lesser_left (Some a) m n h = omega arith

lesser_right : (o : Option ℕ) (m n : ℕ) → m ≡ n → AtMost (lesser o (Some m)) (Some n)
lesser_right None m n h = omega arith
lesser_right (Some a) m n h = omega arith

pub least_at : (f : ℕ → ℕ) (start count t : ℕ) → start ≤ t → t < start + count → AtMost (least f start count) (Some (f t))
least_at f start zero t a b = absurd (omega arith)
least_at f start (suc count) t a b =
    ⊎_elim
    (λ (l : t < start + count). lesser_left (least f start count) (f (start + count)) (f t) (least_at f start count t a l))
    (λ (l : start + count ≤ t). lesser_right (least f start count) (f (start + count)) (f t) (ap f (omega arith)))
    (cases_lt t (start + count))

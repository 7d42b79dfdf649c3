-- The tolerance of an entry, and how it is found. Assumes nothing.
use Rattle.std.specs.Prelude.{◌≡◌, ℕ, zero, suc, ◌+◌, ◌-◌, ◌/◌, ◌<◌, ◌≤◌, max, Bool, true, false, cond, leb, List, length, take, is_some, Some, None, Option, ◌≢◌, nat_le, slice_index_or, refl}
use Rattle.std.proofs.Common.{sym, ap, ◌∙◌, ⊎_elim, add-zero, add-suc, mul-le-mul_left, arith}
use Rattle.std.specs.Option.{unwrap_or}
use Rattle.std.specs.List.{All}
use Rattle.std.proofs.lemmas.List.Sums.{sum_by_more, sum_by-take-le}
use Rattle.std.proofs.lemmas.Nat.{mul-le}
use Rattle.std.proofs.lemmas.Bool.{or_cases, or_left, or_right, cases_Bool, leb-true, le-leb, both_ways, cases_lt}
use Rattle.coretests.specs.declared.entry.Entry.{Entry}
use Rattle.coretests.specs.Limits.{greatest_below}
use Rattle.coretests.specs.Entries.{LighterEntry, Lighter}
use Rattle.coretests.specs.FixedPriority.{interference, workload, some_up_to, tolerates, tolerance, one_more}
use Rattle.coretests.specs.Meanings.{Tolerates, LargestTolerated, ToleranceIsLargest}
use Rattle.coretests.specs.Demand.{sum_each, sum_all}
use Rattle.coretests.specs.Steps.{div_mono}
use Rattle.coretests.specs.Soundness.{InRange, blank}

-- the entry at i behind the entries before it
abbrev pub workload_of : List Entry → ℕ → ℕ → ℕ
workload_of xs i t = workload (take i xs) (slice_index_or xs i blank) t

abbrev pub tolerance_of : List Entry → ℕ → Option ℕ
tolerance_of xs i = tolerance (take i xs) (slice_index_or xs i blank)

-- the greatest of f start, f (start + 1), .. , `count` of them
abbrev pub most : (ℕ → ℕ) → ℕ → ℕ → ℕ
most f start zero = 0
most f start (suc count) = max (most f start count) (f (start + count))

most_le : (f : ℕ → ℕ) (start count b : ℕ) → ((s : ℕ) → start ≤ s → s < start + count → f s ≤ b) → most f start count ≤ b
most_le f start zero b h = omega arith
most_le f start (suc count) b h =
    omega (arith, most_le f start count b (λ s u v. h s u (omega arith)), h (start + count) (omega arith) (omega arith))

pub most_at : (f : ℕ → ℕ) (start count s : ℕ) → start ≤ s → s < start + count → f s ≤ most f start count
most_at f start zero s a b = absurd (omega arith)
most_at f start (suc count) s a b =
    ⊎_elim
    (λ (l : s < start + count). omega (arith, most_at f start count s a l))
    (λ (l : start + count ≤ s). let here : f s ≡ f (start + count) = ap f (omega arith) in omega (arith, here))
    (cases_lt s (start + count))

pub most_skip : (f : ℕ → ℕ) (start k n b : ℕ) → ((s : ℕ) → start ≤ s → s < start + k → f s ≤ b)
    → max b (most f start (k + n)) ≡ max b (most f (start + k) n)
most_skip f start k zero b h = ap (λ m. max b (most f start m)) (add-zero k) ∙ omega (arith, most_le f start k b h)
most_skip f start k (suc n) b h =
    let one = ap (λ m. max b (most f start m)) (add-suc k n) in
    let here : f (start + (k + n)) ≡ f (start + k + n) = ap f (omega arith) in
    one ∙ omega (arith, most_skip f start k n b h, here)

pub most_mono : (f g : ℕ → ℕ) (start count : ℕ) → ((t : ℕ) → f t ≤ g t) → most f start count ≤ most g start count
most_mono f g start zero h = omega arith
most_mono f g start (suc count) h = omega (arith, most_mono f g start count h, h (start + count))

-- a greatest value that is not 0 is the value somewhere
most_somewhere : (f : ℕ → ℕ) (start count : ℕ) → 0 < most f start count → (s : ℕ) × (start ≤ s) × (s < start + count) × (f s ≡ most f start count)
most_somewhere f start zero h = absurd (omega arith)
most_somewhere f start (suc count) h =
    ⊎_elim
    (λ (l : f (start + count) < most f start count).
    let at = most_somewhere f start count (omega arith) in (at.0, at.1, omega (arith, at.2), omega (arith, at.3)))
    (λ (l : most f start count ≤ f (start + count)). (start + count, omega arith, omega arith, omega arith))
    (cases_lt (f (start + count)) (most f start count))

-- the work that comes
interference_mono : (t u : ℕ) (e : Entry) → t ≤ u → InRange e → interference t e ≤ interference u e
interference_mono t u e l f = mul-le-mul_left e.load (div_mono (t + e.period - 1) (u + e.period - 1) e.period f.period_low (omega arith))

interference_lighter : (t : ℕ) (x y : Entry) → LighterEntry x y → interference t y ≤ interference t x
interference_lighter t x y e =
    let jobs = ap (λ (p : ℕ). (t + p - 1) / p) e.period in
    mul-le y.load ((t + y.period - 1) / y.period) x.load ((t + x.period - 1) / x.period) e.load (omega (arith, jobs))

pub workload_mono : (xs : List Entry) (e : Entry) (t u : ℕ) → All InRange xs → t ≤ u → workload xs e t ≤ workload xs e u
unfolding workload
workload_mono xs e t u a l = omega (arith, sum_all InRange (interference t) (interference u) (λ x f. interference_mono t u x l f) xs a)

pub workload_lighter : (xs ys : List Entry) (x y : Entry) → Lighter xs ys → LighterEntry x y → (t : ℕ) → workload ys y t ≤ workload xs x t
unfolding workload
workload_lighter xs ys x y l e t = omega (arith, sum_each LighterEntry (interference t) (interference t) (interference_lighter t) xs ys l)

pub workload-none : (xs : List Entry) (e : Entry) (t : ℕ) → workload (take 0 xs) e t ≡ e.load
unfolding workload
workload-none xs e t = omega arith

pub workload_next : (xs : List Entry) (e : Entry) (t i : ℕ) → i < length xs → workload (take (i + 1) xs) e t ≡ workload (take i xs) e t + interference t (slice_index_or xs i blank)
unfolding workload
workload_next xs e t i h = omega (arith, sum_by_more (interference t) xs i blank h)

pub workload_part : (xs : List Entry) (e : Entry) (t i : ℕ) → workload (take i xs) e t ≤ workload xs e t
unfolding workload
workload_part xs e t i = omega (arith, sum_by-take-le (interference t) xs i)

abbrev pub spare : List Entry → Entry → ℕ → ℕ
spare xs e t = t + 1 - workload xs e t

-- one more than the largest b that is tolerated, and 0 where none is
abbrev pub margin : List Entry → Entry → ℕ
margin before e = most (spare before e) 1 e.deadline

-- one turn: no moment from t up to b + n has more than n to spare
pub spare_skip : (xs : List Entry) (e : Entry) (t b n top : ℕ) → All InRange xs → b ≡ workload xs e t → t < b + n → t ≤ top
    → max n (most (spare xs e) (b + n) (top + 1 - (b + n))) ≡ max n (most (spare xs e) t (top + 1 - t))
spare_skip xs e t b n top a is l h =
    let f = spare xs e in
    let low : (s : ℕ) → t ≤ s → s < b + n → f s ≤ n = λ s u v. omega (arith, workload_mono xs e t s a u) in
    ⊎_elim
    (λ (p : b + n < top + 1).
    let k = (b + n) - t in
    let m = top + 1 - (b + n) in
    let start : t + k ≡ b + n = omega arith in
    let count : k + m ≡ top + 1 - t = omega arith in
    sym (sym (ap (λ c. max n (most f t c)) count) ∙ (most_skip f t k m n (λ s u v. low s u (omega arith)) ∙ ap (λ c. max n (most f c m)) start)))
    (λ (p : top + 1 ≤ b + n).
    let over : top + 1 - (b + n) ≡ 0 = omega arith in
    omega (arith, ap (most f (b + n)) over, most_le f t (top + 1 - t) n (λ s u v. low s u (omega arith))))
    (cases_lt (b + n) (top + 1))

-- the moment t itself counts
pub spare_here : (xs : List Entry) (e : Entry) (t b n top : ℕ) → b ≡ workload xs e t → t ≤ top
    → max (max n (t + 1 - b)) (most (spare xs e) t (top + 1 - t)) ≡ max n (most (spare xs e) t (top + 1 - t))
spare_here xs e t b n top is h = omega (arith, most_at (spare xs e) t (top + 1 - t) t (omega arith) (omega arith))

-- no moment from t on has any to spare
pub spare-none : (xs : List Entry) (e : Entry) (t n top : ℕ) → All InRange xs → top < workload xs e t → max n (most (spare xs e) t (top + 1 - t)) ≡ n
spare-none xs e t n top a h =
    omega (arith, most_le (spare xs e) t (top + 1 - t) 0 (λ s u v. omega (arith, workload_mono xs e t s a u)))

-- the tests of the definition
some_from : (test : ℕ → Bool) (n t : ℕ) → 1 ≤ t → t ≤ n → test t ≡ true → some_up_to test n ≡ true
some_from test zero t a b h = absurd (omega arith)
some_from test (suc n) t a b h =
    ⊎_elim
    (λ (l : t < suc n). or_right (test (suc n)) (some_up_to test n) (some_from test n t a (omega arith) h))
    (λ (l : suc n ≤ t). let is : t ≡ suc n = omega arith in or_left (test (suc n)) (some_up_to test n) (sym (ap test is) ∙ h))
    (cases_lt t (suc n))

some_at : (test : ℕ → Bool) (n : ℕ) → some_up_to test n ≡ true → (t : ℕ) × (1 ≤ t) × (t ≤ n) × (test t ≡ true)
some_at test zero h = absurd (both_ways false refl h)
some_at test (suc n) h =
    ⊎_elim
    (λ (p : test (suc n) ≡ true). (suc n, omega arith, omega arith, p))
    (λ (p : some_up_to test n ≡ true). let at = some_at test n p in (at.0, at.1, omega (arith, at.2), at.3))
    (or_cases (test (suc n)) (some_up_to test n) h)

-- the answer is the greatest number below n that passes, or none does
abbrev Greatest : (ℕ → Bool) → ℕ → Option ℕ → Type 0
Greatest test n None = (k : ℕ) → k < n → test k ≢ true
Greatest test n (Some b) = (test b ≡ true) × ((k : ℕ) → k < n → test k ≡ true → k ≤ b)

greatest_more : (test : ℕ → Bool) (n : ℕ) (o : Option ℕ) → test n ≡ false → Greatest test n o → Greatest test (suc n) o
greatest_more test n None f g = λ k l p. ⊎_elim (λ (u : k < n). g k u p) (λ (u : n ≤ k). let is : k ≡ n = omega arith in both_ways (test n) f (sym (ap test is) ∙ p)) (cases_lt k n)
greatest_more test n (Some b) f g = (
  g.0,
  λ k l p. ⊎_elim (λ (u : k < n). g.1 k u p) (λ (u : n ≤ k). let is : k ≡ n = omega arith in absurd (both_ways (test n) f (sym (ap test is) ∙ p))) (cases_lt k n),
)

greatest_is : (test : ℕ → Bool) (n : ℕ) → Greatest test n (greatest_below test n)
greatest_is test zero = λ k l p. omega arith
greatest_is test (suc n) =
    ⊎_elim
    (λ (p : test n ≡ true).
    let is : greatest_below test (suc n) ≡ Some n = ap (λ b. cond b (Some n) (greatest_below test n)) p in
    rw is (p, λ k l q. omega arith))
    (λ (p : test n ≡ false).
    let is : greatest_below test (suc n) ≡ greatest_below test n = ap (λ b. cond b (Some n) (greatest_below test n)) p in
    rw is (greatest_more test n (greatest_below test n) p (greatest_is test n)))
    (cases_Bool (test n))

-- one entry behind those before it
module _ (before : List Entry) (e : Entry) where
  tolerates_is : (b : ℕ) → tolerates before e b ≡ true → Tolerates before e b
  tolerates_is b h = let at = some_at (λ t. leb (b + workload before e t) t) e.deadline h in (at.0, at.1, at.2, leb-true _ _ at.3)

  tolerates-from : (b : ℕ) → Tolerates before e b → tolerates before e b ≡ true
  tolerates-from b w = some_from (λ t. leb (b + workload before e t) t) e.deadline w.0 w.1 w.2 (le-leb _ _ w.3)

  -- no blocking that is tolerated is longer than the deadline
  tolerates_small : (b : ℕ) → Tolerates before e b → b < e.deadline + 1
  tolerates_small b w = omega (arith, w.2, w.3)

  largest_from : (o : Option ℕ) → Greatest (tolerates before e) (e.deadline + 1) o → LargestTolerated before e o
  largest_from None g = λ b w. g b (tolerates_small b w) (tolerates-from b w)
  largest_from (Some b) g = (tolerates_is b g.0, λ k w. g.1 k (tolerates_small k w) (tolerates-from k w))

  pub largest_is : LargestTolerated before e (tolerance before e)
  unfolding tolerance
  largest_is = largest_from (tolerance before e) (greatest_is (tolerates before e) (e.deadline + 1))

  below_margin : (b : ℕ) → Tolerates before e b → b < margin before e
  below_margin b w = omega (arith, w.3, most_at (spare before e) 1 e.deadline w.0 w.1 (omega (arith, w.2)))

  at_margin : 0 < margin before e → Tolerates before e (margin before e - 1)
  at_margin h = let at = most_somewhere (spare before e) 1 e.deadline h in (at.0, at.1, omega (arith, at.2), omega (arith, at.3))

  margin-from : (o : Option ℕ) → LargestTolerated before e o → margin before e ≡ one_more o
  margin-from None l = ⊎_elim (λ (h : 0 < margin before e). absurd (l (margin before e - 1) (at_margin h))) (λ (h : margin before e ≤ 0). omega arith) (cases_lt 0 (margin before e))
  margin-from (Some b) l =
      let above : b < margin before e = below_margin b l.0 in
      omega (arith, l.1 (margin before e - 1) (at_margin (omega arith)))

  -- the margin is one more than the tolerance
  pub margin_is : margin before e ≡ one_more (tolerance before e)
  margin_is = margin-from (tolerance before e) largest_is

pub tolerance_is_largest_lem : ToleranceIsLargest
tolerance_is_largest_lem before e = largest_is before e

-- a tolerance is known by one more than it
pub same_from_one_more : (r o : Option ℕ) → one_more r ≡ one_more o → r ≡ o
same_from_one_more None None e = refl
same_from_one_more None (Some b) e = absurd (omega arith)
same_from_one_more (Some a) None e = absurd (omega arith)
same_from_one_more (Some a) (Some b) e = ap Some (omega arith)

pub some_is : (o : Option ℕ) → is_some o ≡ nat_le 1 (one_more o)
some_is None = refl
some_is (Some b) = sym (le-leb 1 (b + 1) (omega arith))

pub value_is : (o : Option ℕ) → unwrap_or o 0 ≡ one_more o - 1
value_is None = refl
value_is (Some b) = omega arith

margin_lighter : (xs ys : List Entry) (x y : Entry) → Lighter xs ys → LighterEntry x y → margin xs x ≤ margin ys y
margin_lighter xs ys x y l e =
    omega (arith, ap (most (spare ys y) 1) e.deadline, most_mono (spare xs x) (spare ys y) 1 x.deadline (λ t. omega (arith, workload_lighter xs ys x y l e t)))

-- with lighter loads a tolerance is kept, and is no less
pub tolerance_lighter : (xs ys : List Entry) (x y : Entry) → Lighter xs ys → LighterEntry x y → one_more (tolerance xs x) ≤ one_more (tolerance ys y)
tolerance_lighter xs ys x y l e = omega (arith, margin_is xs x, margin_is ys y, margin_lighter xs ys x y l e)

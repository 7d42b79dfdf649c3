-- Facts on the demand of a list. Assumes nothing.
use Rattle.std.specs.Prelude.{◌≡◌, ℕ, zero, suc, ◌+◌, ◌-◌, ◌*◌, ◌/◌, ◌%◌, ◌<◌, ◌≤◌, List, [], ◌∷◌, ◌++◌, sum_by, refl}
use Rattle.std.proofs.Common.{ap, ◌∙◌, ⊎_elim, mul-le-mul_left, mul-add, arith}
use Rattle.std.proofs.Math.Nat.{div-eq_of_lt}
use Rattle.std.proofs.lemmas.List.Sums.{sum_by-cons, sum_by-append}
use Rattle.std.proofs.lemmas.Nat.{mul-le}
use Rattle.std.proofs.lemmas.Bool.{cases_lt}
use Rattle.std.proofs.lemmas.List.Elements.{All-head, All-tail}
use Rattle.std.specs.List.{AllZip, All}
use Rattle.coretests.specs.declared.entry.Entry.{Entry}
use Rattle.coretests.specs.Entries.{LighterEntry, Lighter}
use Rattle.coretests.specs.Edf.{entry_demand, demand}
use Rattle.coretests.specs.Steps.{div_mono, div_later}
use Rattle.coretests.specs.Soundness.{InRange, Divides}

-- sums of two lists that go side by side
pub sum_each : {X : Type 0} (R : X → X → Type 0) (f g : X → ℕ) → ((x y : X) → R x y → g y ≤ f x) → (xs ys : List X) → AllZip R xs ys → sum_by g ys ≤ sum_by f xs
sum_each R f g h [] [] e = omega arith
sum_each R f g h [] (y ∷ ys) e = absurd e
sum_each R f g h (x ∷ xs) [] e = absurd e
sum_each R f g h (x ∷ xs) (y ∷ ys) e =
    omega (arith, sum_by-cons f x xs, sum_by-cons g y ys, h x y e.0, sum_each R f g h xs ys e.1)

pub sum_all : {X : Type 0} (P : X → Type 0) (f g : X → ℕ) → ((x : X) → P x → f x ≤ g x) → (xs : List X) → All P xs → sum_by f xs ≤ sum_by g xs
sum_all P f g h [] a = omega arith
sum_all P f g h (x ∷ xs) a = omega (arith, sum_by-cons f x xs, sum_by-cons g x xs, h x (All-head P x xs a), sum_all P f g h xs (All-tail P x xs a))

entry_mono : (t u : ℕ) (e : Entry) → t ≤ u → InRange e → entry_demand t e ≤ entry_demand u e
entry_mono t u e l f = mul-le-mul_left e.load (div_mono (t + e.period - e.deadline) (u + e.period - e.deadline) e.period f.period_low (omega arith))

pub demand_mono : (xs : List Entry) → All InRange xs → (t u : ℕ) → t ≤ u → demand xs t ≤ demand xs u
unfolding demand
demand_mono xs a t u l = sum_all InRange (entry_demand t) (entry_demand u) (λ e f. entry_mono t u e l f) xs a

entry_lighter : (t : ℕ) (x y : Entry) → LighterEntry x y → entry_demand t y ≤ entry_demand t x
entry_lighter t x y e =
    let jobs = ap (λ (p : ℕ). (t + p - y.deadline) / p) e.period ∙ ap (λ d. (t + x.period - d) / x.period) e.deadline in
    mul-le y.load ((t + y.period - y.deadline) / y.period) x.load ((t + x.period - x.deadline) / x.period) e.load (omega (arith, jobs))

pub demand_lighter : (xs ys : List Entry) → Lighter xs ys → (t : ℕ) → demand ys t ≤ demand xs t
unfolding demand
demand_lighter xs ys e t = sum_each LighterEntry (entry_demand t) (entry_demand t) (entry_lighter t) xs ys e

pub demand_front : (xs ys : List Entry) (t : ℕ) → demand xs t ≤ demand (xs ++ ys) t
unfolding demand
demand_front xs ys t = omega (arith, sum_by-append (entry_demand t) xs ys)

-- the span: after m the demand starts again
entry_later : (t m : ℕ) (e : Entry) → InRange e → m % e.period ≡ 0 → entry_demand (t + m) e ≡ entry_demand t e + entry_demand m e
entry_later t m e f d =
    let p = e.period in
    let rest = e.period - e.deadline in
    let one : t + m + e.period - e.deadline ≡ (t + rest) + m = omega arith in
    let two : t + e.period - e.deadline ≡ t + rest = omega arith in
    let three : m + e.period - e.deadline ≡ rest + m = omega arith in
    let small : rest / p ≡ 0 = div-eq_of_lt (omega arith) in
    let jobs : (t + m + e.period - e.deadline) / p ≡ (t + e.period - e.deadline) / p + (m + e.period - e.deadline) / p =
    omega (arith, ap (λ n. n / p) one, ap (λ n. n / p) two, ap (λ n. n / p) three, div_later (t + rest) m p f.period_low d, div_later rest m p f.period_low d) in
    ap (λ n. e.load * n) jobs ∙ mul-add e.load ((t + e.period - e.deadline) / p) ((m + e.period - e.deadline) / p)

pub demand_later : (xs : List Entry) (t m : ℕ) → All InRange xs → Divides m xs → demand xs (t + m) ≡ demand xs t + demand xs m
unfolding demand
demand_later [] t m a d = refl
demand_later (x ∷ xs) t m a d =
    let divided = λ (e : Entry). m % e.period ≡ 0 in
    omega (arith, sum_by-cons (entry_demand (t + m)) x xs, sum_by-cons (entry_demand t) x xs, sum_by-cons (entry_demand m) x xs, entry_later t m x (All-head InRange x xs a) (All-head divided x xs d), demand_later xs t m (All-tail InRange x xs a) (All-tail divided x xs d))

module _ (xs : List Entry) (m : ℕ) (in_range : All InRange xs) (divided : Divides m xs) (positive : 1 ≤ m) (met : (s : ℕ) → s ≤ m → demand xs s ≤ s) where
  upto : (n t : ℕ) → t ≤ n → demand xs t ≤ t
  upto zero t l = met t (omega arith)
  upto (suc n) t l =
      ⊎_elim
      (λ (k : m < t).
      let earlier = upto n (t - m) (omega arith) in
      let whole : t - m + m ≡ t = omega arith in
      omega (arith, earlier, met m (omega arith), ap (demand xs) whole, demand_later xs (t - m) m in_range divided))
      (λ (k : t ≤ m). met t k)
      (cases_lt m t)

  pub always : (t : ℕ) → demand xs t ≤ t
  always t = upto t t (omega arith)

-- A line above the demand, where the work of one span is less than the span. Assumes nothing.
use Rattle.std.proofs.Common.{◌≡◌, ℕ, ◌+◌, ◌-◌, ◌*◌, ◌/◌, ◌%◌, ◌<◌, ◌≤◌, true, List, [], ◌∷◌, sum_by, sym, ap, ◌∙◌, mul_comm, div-lt_iff_lt-mul, add-mul, mul-le-mul_left, mul-add, div-le_self, arith}
use native.Mathlib.Nat.{mul-mul-mul_comm, mul-div-le, mod-add-div, lt_of_mul-lt-mul_left}
use Rattle.std.specs.List.{All}
use Rattle.std.proofs.lemmas.Nat.{mul-le}
use Rattle.std.proofs.lemmas.List.Elements.{All-head, All-tail}
use Rattle.std.proofs.lemmas.List.Sums.{sum_by-cons}
use Rattle.span.specs.Spans.{span_of}
use Rattle.coretests.specs.declared.entry.Entry.{Entry}
use Rattle.coretests.specs.Entries.{periods, sound}
use Rattle.coretests.specs.Edf.{entry_demand, demand}
use Rattle.coretests.specs.Soundness.{InRange, Divides, in_range_each, span_divides}

-- the work of an entry in m ticks, of which its periods are a divisor
abbrev pub share : ℕ → Entry → ℕ
share m e = e.load * (m / e.period)

-- that work, as often as the deadline is before the end of the period
abbrev pub lead_of : ℕ → Entry → ℕ
lead_of m e = share m e * (e.period - e.deadline)

pub share_small : (m : ℕ) (e : Entry) → InRange e → m ≤ 1000000 → share m e ≤ 1000000000000000
share_small m e f h = mul-le e.load (m / e.period) 1000000000 1000000 f.load_high (omega (arith, div-le_self m e.period))

pub lead_small : (m : ℕ) (e : Entry) → InRange e → lead_of m e ≤ share m e * 1000000
lead_small m e f = let near : e.period - e.deadline ≤ 1000000 = omega arith in mul-le-mul_left (share m e) near

entry_under : (m t : ℕ) (e : Entry) → InRange e → m % e.period ≡ 0 → m * entry_demand t e ≤ share m e * t + lead_of m e
entry_under m t e f d =
    let rest : ℕ = e.period - e.deadline in
    let jobs : ℕ = (t + e.period - e.deadline) / e.period in
    let whole : e.period * (m / e.period) ≡ m = omega (arith, mod-add-div m e.period) in
    let swapped : m * (e.load * jobs) ≡ share m e * (e.period * jobs) =
    sym (ap (λ n. n * (e.load * jobs)) whole)
    ∙ ap (λ n. n * (e.load * jobs)) (mul_comm e.period (m / e.period))
    ∙ mul-mul-mul_comm (m / e.period) e.period e.load jobs
    ∙ ap (λ n. n * (e.period * jobs)) (mul_comm (m / e.period) e.load) in
    let few : e.period * jobs ≤ t + rest = omega (arith, mul-div-le (t + e.period - e.deadline) e.period) in
    omega (arith, swapped, mul-le-mul_left (share m e) few, mul-add (share m e) t rest)

demand_under : (m t : ℕ) (xs : List Entry) → All InRange xs → Divides m xs → m * demand xs t ≤ sum_by (share m) xs * t + sum_by (lead_of m) xs
unfolding demand
demand_under m t [] a d = omega arith
demand_under m t (x ∷ xs) a d =
    let divided = λ (e : Entry). m % e.period ≡ 0 in
    omega (
      arith,
      sum_by-cons (entry_demand t) x xs,
      sum_by-cons (share m) x xs,
      sum_by-cons (lead_of m) x xs,
      ap (λ n. m * n) (sum_by-cons (entry_demand t) x xs),
      mul-add m (entry_demand t x) (sum_by (entry_demand t) xs),
      ap (λ n. n * t) (sum_by-cons (share m) x xs),
      add-mul (share m x) (sum_by (share m) xs) t,
      entry_under m t x (All-head InRange x xs a) (All-head divided x xs d),
      demand_under m t xs (All-tail InRange x xs a) (All-tail divided x xs d),
    )

-- past the moment where the line leaves `least`, the demand does
past_line : (m work lead least due s : ℕ) → m * due ≤ work * s + lead → work < m → (lead + least * m) / (m - work) < s → least + due ≤ s
past_line m work lead least due s under less past =
    let pos : 0 < m - work = omega arith in
    let over : lead + least * m < s * (m - work) = (div-lt_iff_lt-mul pos).0 past in
    let parts : work + (m - work) ≡ m = omega arith in
    let split : s * m ≡ s * work + s * (m - work) = sym (ap (λ n. s * n) parts) ∙ mul-add s work (m - work) in
    let product : m * (least + due) < m * s =
    omega (arith, mul-add m least due, mul_comm m least, mul_comm m s, mul_comm work s) in
    let below : least + due < s = lt_of_mul-lt-mul_left m product in
    omega arith

pub past_tight : (xs : List Entry) (m work lead least s : ℕ) → sound xs ≡ true → m ≡ span_of (periods xs)
    → work ≡ sum_by (share m) xs → lead ≡ sum_by (lead_of m) xs → work < m → (lead + least * m) / (m - work) < s → least + demand xs s ≤ s
past_tight xs m work lead least s ok is w l less past =
    let divided : Divides m xs = rw is (span_divides xs ok) in
    past_line m work lead least (demand xs s) s
    (omega (arith, demand_under m s xs (in_range_each xs ok) divided, ap (λ n. n * s) w)) less past

-- The turns of the loops of earliest deadline first. Assumes nothing.
use Rattle.std.proofs.Common.{◌≡◌, ℕ, ◌+◌, ◌-◌, ◌<◌, ◌≤◌, min, true, List, [], ◌∷◌, length, get_or, take, Some, None, Option, sym, refl, ap, ◌∙◌, ⊎_elim, arith}
use Rattle.std.proofs.lemmas.List.Sums.{sum_by_more, sum_by-take-le}
use Rattle.std.proofs.lemmas.Bool.{cases_lt}
use Rattle.span.specs.Spans.{span_of}
use Rattle.coretests.specs.declared.entry.Entry.{Entry}
use Rattle.coretests.specs.Limits.{lesser, AtMost, least}
use Rattle.coretests.specs.Entries.{periods, sound, askable}
use Rattle.coretests.specs.Edf.{entry_demand, demand, EdfAccepts, slack, least_slack, edf_limit}
use Rattle.coretests.specs.Bounds.{least_skip, least_at}
use Rattle.coretests.specs.Guard.{guard_open}
use Rattle.coretests.specs.Demand.{demand_mono, demand_later, always}
use Rattle.coretests.specs.Soundness.{blank, in_range_each, span_low, span_divides}

pub demand_next : (xs : List Entry) (t i : ℕ) → i < length xs → demand (take (i + 1) xs) t ≡ demand (take i xs) t + entry_demand t (get_or xs i blank)
unfolding demand
demand_next xs t i h = sum_by_more (entry_demand t) xs i blank h

pub demand_part : (xs : List Entry) (t i : ℕ) → demand (take i xs) t ≤ demand xs t
unfolding demand
demand_part xs t i = sum_by-take-le (entry_demand t) xs i

pub demand-none : (t : ℕ) → demand [] t ≡ 0
unfolding demand
demand-none t = refl

-- nothing is due at 0
demand-start : (xs : List Entry) → sound xs ≡ true → demand xs 0 ≡ 0
demand-start xs s =
    let m = span_of (periods xs) in
    let same : 0 + m ≡ m = omega arith in
    omega (arith, ap (demand xs) same, demand_later xs 0 m (in_range_each xs s) (span_divides xs s))

pub overrun : (xs : List Entry) (t : ℕ) → t < demand xs t → EdfAccepts xs → ⊥
overrun xs t h m =
    ⊎_elim
    (λ (p : 0 < t). omega (arith, m.1 t p))
    (λ (z : t ≤ 0). let same : t ≡ 0 = omega arith in omega (arith, ap (demand xs) same, demand-start xs m.0))
    (cases_lt 0 t)

pub all_met : (xs : List Entry) → sound xs ≡ true → ((s : ℕ) → s ≤ span_of (periods xs) → demand xs s ≤ s) → EdfAccepts xs
all_met xs s h =
    (s, λ t p. always xs (span_of (periods xs)) (in_range_each xs s) (span_divides xs s) (span_low xs s) h t)

-- every moment from `due` on up to m is met, where those after t are
pub met_down : (xs : List Entry) (t due m s : ℕ) → sound xs ≡ true → due ≡ demand xs t → due ≤ s → s ≤ m → ((u : ℕ) → t < u → u ≤ m → demand xs u ≤ u) → demand xs s ≤ s
met_down xs t due m s f e a b later =
    ⊎_elim
    (λ (l : t < s). later s l b)
    (λ (l : s ≤ t). omega (arith, demand_mono xs (in_range_each xs f) s t l))
    (cases_lt t s)

-- moments with a slack of b or more add nothing to b
pub slack_skip : (xs : List Entry) (low r t b : ℕ) → r ≤ t → ((s : ℕ) → r < s → s ≤ t → b ≤ slack xs s)
    → lesser (Some b) (least (slack xs) low (r + 1 - low)) ≡ lesser (Some b) (least (slack xs) low (t + 1 - low))
slack_skip xs low r t b h past =
    let n = r + 1 - low in
    let k = (t + 1 - low) - n in
    let all : n + k ≡ t + 1 - low = omega arith in
    sym (least_skip (slack xs) low n k b (λ s u v. past s (omega arith) (omega arith))) ∙ ap (λ c. lesser (Some b) (least (slack xs) low c)) all

-- a value that is one of those of which the least is sought
pub lesser_member : (b : ℕ) (o : Option ℕ) → AtMost o (Some b) → lesser (Some b) o ≡ o
lesser_member b None h = absurd h
lesser_member b (Some a) h = ap Some (omega arith)

pub lesser_joins : (b n : ℕ) (o : Option ℕ) → AtMost o (Some n) → lesser (Some (min b n)) o ≡ lesser (Some b) o
lesser_joins b n None h = absurd h
lesser_joins b n (Some a) h = ap Some (omega arith)

-- one turn: the moments from t − room + b to t, where t has `room`, have b or more
pub slack_turn : (xs : List Entry) (low t best room b r : ℕ) → sound xs ≡ true → low ≤ t → room ≡ slack xs t → b ≡ min best room → r ≡ t - room + b - 1
    → lesser (Some b) (least (slack xs) low (r + 1 - low)) ≡ lesser (Some best) (least (slack xs) low (t + 1 - low))
slack_turn xs low t best room b r ok l is less down =
    let here : AtMost (least (slack xs) low (t + 1 - low)) (Some room) = rw is (least_at (slack xs) low (t + 1 - low) t l (omega arith)) in
    slack_skip xs low r t b (omega arith) (λ s u v. omega (arith, demand_mono xs (in_range_each xs ok) s t v))
    ∙ ap (λ n. lesser (Some n) (least (slack xs) low (t + 1 - low))) less
    ∙ lesser_joins best room (least (slack xs) low (t + 1 - low)) here

pub least_slack_is : (xs : List Entry) (d : ℕ) → 0 < length xs → least_slack xs d ≡ least (slack xs) (get_or xs 0 blank).deadline (d - (get_or xs 0 blank).deadline)
least_slack_is [] d h = absurd (omega arith)
least_slack_is (x ∷ xs) d h = refl

pub least_slack-none : (xs : List Entry) (d : ℕ) → length xs ≤ 0 → least_slack xs d ≡ None
least_slack-none [] d h = refl
least_slack-none (x ∷ xs) d h = absurd (omega arith)

-- the limit of a list that is asked about, where the first deadline is `first`
pub limit_none : (xs ys : List Entry) (d : ℕ) → askable xs d ≡ true → ys ≡ xs → length ys ≤ 0 → None ≡ edf_limit xs d
limit_none xs ys d h e l = sym (guard_open xs d (least_slack xs d) h ∙ least_slack-none xs d (omega (arith, ap length e)))

pub limit_from : (xs ys : List Entry) (d first : ℕ) → askable xs d ≡ true → ys ≡ xs → 0 < length ys → first ≡ (get_or ys 0 blank).deadline → least (slack ys) first (d - first) ≡ edf_limit xs d
limit_from xs ys d first h e l is =
    ap (λ n. least (slack ys) n (d - n)) is
    ∙ sym (least_slack_is ys d l)
    ∙ ap (λ zs. least_slack zs d) e
    ∙ sym (guard_open xs d (least_slack xs d) h)

-- the turns begin at the last tight moment r before d
pub slack_start : (xs ys : List Entry) (d first best r : ℕ) → askable xs d ≡ true → ys ≡ xs → 0 < length ys → first ≡ (get_or ys 0 blank).deadline → first < d
    → best ≡ slack ys first → r ≤ d - 1 → ((s : ℕ) → r < s → s ≤ d - 1 → best + demand ys s ≤ s)
    → lesser (Some best) (least (slack ys) first (r + 1 - first)) ≡ edf_limit xs d
slack_start xs ys d first best r h e l is low here down past =
    let whole : d - 1 + 1 - first ≡ d - first = omega arith in
    let member : AtMost (least (slack ys) first (d - first)) (Some best) = rw here (least_at (slack ys) first (d - first) first (omega arith) (omega arith)) in
    slack_skip ys first r (d - 1) best down (λ s u v. omega (arith, past s u v))
    ∙ ap (λ n. lesser (Some best) (least (slack ys) first n)) whole
    ∙ lesser_member best (least (slack ys) first (d - first)) member
    ∙ limit_from xs ys d first h e l is

-- Each row of the choice has the chosen cuts. Assumes nothing but the laws of the test.
use Rattle.std.proofs.Common.{◌≡◌, ℕ, zero, suc, ◌+◌, ◌*◌, ◌<◌, ◌≤◌, Bool, true, cond, eqb, List, [], ◌∷◌, ◌++◌, map, length, get_or, take, Some, None, Option, sym, refl, ap, ◌∙◌, subst, append_assoc, mul-le-mul_left, arith}
use native.Mathlib.Nat.{le_of_mul-le-mul_left}
use Rattle.std.specs.List.{AllZip, AllByRecursion}
use Rattle.std.proofs.lemmas.List.{append-nil}
use Rattle.std.proofs.lemmas.List.Elements.{AllZip-push}
use Rattle.std.proofs.lemmas.Bool.{and_parts}
use Rattle.tasks.specs.Tasks.{Task, Table, every, in_range, weight, table_rules}
use Rattle.tasks.specs.Cuts.{total, cut_cost}
use Rattle.tasks.proofs.Rules.{rules_are}
use Rattle.coretests.specs.declared.entry.Entry.{Entry}
use Rattle.cuts.specs.declared.types.Cuts.{Cuts}
use Rattle.cuts.specs.Orders.{NoLater, mark}
use Rattle.cuts.specs.Allowed.{flags_at, Allowed, LeastCuts, cut_rank}
use Rattle.cuts.specs.Best.{BestCuts}
use Rattle.cuts.specs.Dynamic.{best_at}
use Rattle.cuts.proofs.Ranges.{ranges}
use Rattle.cuts.proofs.Dynamic.{best_cuts_lem}
use Rattle.plans.specs.declared.types.Row.{Row}
use Rattle.plans.specs.declared.types.Placed.{Placed}
use Rattle.plans.specs.Plans.{place, places, on_core, Fits, Lawful, cost_of, cores, marks, rank, Choice}
use Rattle.plans.proofs.OnCore.{on-append}
use Rattle.optimality.specs.Tests.{Laws}
use Rattle.optimality.specs.Beginnings.{Greedy, row}
use Rattle.optimality.specs.Meanings.{ChoiceHasChosenCuts}
use Rattle.optimality.proofs.Order.{Begins, begins_same, no_later_antisym}
use Rattle.optimality.proofs.Greedy.{Dom, Lower, allowed_under, rank_le, marks-length, lower_place, cost_le, fits_length, greedy_fits, longer_at, dom, held_dom, greedy_least}
use Rattle.optimality.proofs.Steps.{cores-length}
use Rattle.optimality.proofs.Unique.{fronts_same}
use Rattle.optimality.proofs.Bounds.{heavy}

-- where some cuts are allowed, some are chosen
chosen_cuts : (lim : Option ℕ) (t : Task) (cuts : List Bool) → in_range t ≡ true → Allowed lim t cuts → (fs : List Bool) × LeastCuts lim t fs
chosen_cuts lim t cuts h a = go (best_at lim t (get_or t.blocks 0 0) 0) (best_cuts_lem lim t (ranges t h) t.blocks (best_at lim t (get_or t.blocks 0 0) 0) refl refl)
  where
    go : (o : Option Cuts) → BestCuts lim t o → (fs : List Bool) × LeastCuts lim t fs
    go None b = absurd (b cuts a)
    go (Some c) b = (c.flags, b.1)

-- the cuts at place i are chosen behind those before and the places below i
greedy_at : (limit : List Entry → ℕ → Option ℕ) (table : Table) (before : List Placed) (ts : List Task) (rs : List Row) → Greedy limit table before ts rs → length rs ≡ length ts
    → (i : ℕ) (t : Task) (r : Row) → i < length ts
    → LeastCuts (limit (on_core (get_or rs i r).core (before ++ take i (places table ts rs))) (get_or ts i t).deadline) (get_or ts i t) (get_or rs i r).cuts
greedy_at limit table before [] rs g l i t r h = absurd (omega arith)
greedy_at limit table before (x ∷ ts) [] g l i t r h = absurd (omega arith)
greedy_at limit table before (x ∷ ts) (q ∷ rs) g l zero t r h = rw append-nil g.2
greedy_at limit table before (x ∷ ts) (q ∷ rs) g l (suc i) t r h =
    subst (λ (ps : List Placed). LeastCuts (limit (on_core (get_or rs i r).core ps) (get_or ts i t).deadline) (get_or ts i t) (get_or rs i r).cuts)
    (append_assoc before (place table x q ∷ []) (take i (places table ts rs)))
    (greedy_at limit table (before ++ place table x q ∷ []) ts rs g.3 (omega arith) i t r (omega arith))

-- rows that fit and agree with chosen ones in cores, cost and flags have the chosen cuts, behind tasks that leave the same lists
same_greedy : (limit : List Entry → ℕ → Option ℕ) (table : Table) (before before' : List Placed) (ts : List Task) (gs rs : List Row) → ((c : ℕ) → on_core c before ≡ on_core c before')
    → AllByRecursion (λ t. 1 ≤ weight table t) ts → length gs ≡ length ts → Dom ts gs rs → cost_of table ts rs ≤ cost_of table ts gs → marks ts gs ≡ marks ts rs
    → Greedy limit table before ts gs → Fits limit table before' ts rs → Greedy limit table before' ts rs
same_greedy limit table before before' ts gs [] alike w l d h m g f = tt
same_greedy limit table before before' [] gs (r ∷ rs) alike w l d h m g f = absurd f
same_greedy limit table before before' (t ∷ ts) [] (r ∷ rs) alike w l d h m g f = absurd (omega arith)
same_greedy limit table before before' (t ∷ ts) (q ∷ gs) (r ∷ rs) alike w l d h m g f =
    let a = cut_cost t q.cuts in
    let b = cut_cost t r.cuts in
    let le : a ≤ b = rank_le t q.cuts r.cuts d.1 in
    let rest = cost_le table ts gs rs d.2 in
    let more = mul-le-mul_left (weight table t) le in
    let price : a ≡ b = omega (arith, le_of_mul-le-mul_left {m = b} {n = a} {k = weight table t} (omega arith) w.0) in
    let flags = fronts_same (map mark (flags_at t.points q.cuts)) (map mark (flags_at t.points r.cuts)) (marks ts gs) (marks ts rs) (marks-length t.points q.cuts r.cuts) m in
    let same : cut_rank t q.cuts ≡ cut_rank t r.cuts = λ i. price i ∷ flags.0 i in
    let one : (c : ℕ) → on_core c (place table t q ∷ []) ≡ on_core c (place table t r ∷ []) = λ c i. cond (eqb (d.0 i) c) (record { period = t.period; deadline = t.deadline; load = total t.blocks + price i } ∷ []) [] in
    let chosen : LeastCuts (limit (on_core r.core before') t.deadline) t q.cuts =
    subst (λ (l : List Entry). LeastCuts (limit l t.deadline) t q.cuts) (alike r.core) (subst (λ (k : ℕ). LeastCuts (limit (on_core k before) t.deadline) t q.cuts) d.0 g.2)
    in (
      f.0.low,
      f.0.high,
      record { allowed = f.0.allowed; least = λ others fair. subst (λ (x : List ℕ). NoLater x (cut_rank t others)) same (chosen.least others fair) },
      same_greedy limit table (before ++ place table t q ∷ []) (before' ++ place table t r ∷ []) ts gs rs
          (λ c. on-append c before (place table t q ∷ []) ∙ (λ i. alike c i ++ one c i) ∙ sym (on-append c before' (place table t r ∷ [])))
          w.1 (omega arith) d.2 (omega (arith, ap (λ n. weight table t * n) price)) flags.1 g.3 f.1,
    )

module _ {accepts : List Entry → Type 0} {limit : List Entry → ℕ → Option ℕ} (laws : Laws accepts limit) where
  -- on the cores of rows that fit there are the chosen cuts, task by task
  greedy_on : (table : Table) (before before' : List Placed) (ts : List Task) (qs : List Row) → every in_range ts ≡ true → AllZip Lower before' before → Fits limit table before' ts qs
      → (gs : List Row) × Greedy limit table before ts gs × (cores gs ≡ cores qs)
  greedy_on table before before' [] [] h l f = ([], tt, refl)
  greedy_on table before before' [] (q ∷ qs) h l f = absurd f
  greedy_on table before before' (t ∷ ts) [] h l f = absurd f
  greedy_on table before before' (t ∷ ts) (q ∷ qs) h l f =
      let hs = and_parts (in_range t) (every in_range ts) h in
      let lim = limit (on_core q.core before) t.deadline in
      let lim' = limit (on_core q.core before') t.deadline in
      let fair : Allowed lim t q.cuts = allowed_under lim' lim t q.cuts (longer_at laws before before' q.core q.core t.deadline refl l) f.0.allowed in
      let c = chosen_cuts lim t q.cuts hs.0 fair in
      let r = row q.core c.0 in
      let low = AllZip-push Lower before' before (place table t q) (place table t r) l (lower_place table t q r refl (c.1.least q.cuts fair)) in
      let s = greedy_on table (before ++ place table t r ∷ []) (before' ++ place table t q ∷ []) ts qs hs.1 low f.1 in
      (r ∷ s.0, (f.0.low, f.0.high, c.1, s.1), ap (λ (l : List ℕ). q.core ∷ l) s.2)

  -- the choice and the chosen cuts on its cores rank the same, so its cuts are the chosen ones
  choice_greedy : (table : Table) (rows : List Row) → table_rules table ≡ true → Choice accepts limit table rows → Greedy limit table [] table.tasks rows
  choice_greedy table rows rules choice =
      let ts = table.tasks in
      let fits = choice.lawful.fits in
      let s = greedy_on table [] [] ts rows (rules_are table rules).ranges tt fits in
      let gs = s.0 in
      let w = heavy table rules in
      let d = dom laws table [] [] ts gs rows tt s.1 fits (subst (λ (x : List ℕ). Begins x (cores gs)) s.2 (begins_same (cores gs))) in
      let long : length gs ≡ length ts = sym (cores-length gs) ∙ ap length s.2 ∙ cores-length rows ∙ fits_length limit table [] ts rows fits in
      let law : Lawful accepts limit table gs = record { fits = greedy_fits limit table [] ts gs s.1 long; held = held_dom laws table ts gs rows d choice.lawful.held } in
      let e : rank table gs ≡ rank table rows = no_later_antisym (rank table gs) (rank table rows) (greedy_least laws table gs rows w s.1 choice.lawful (sym s.2)) (choice.least gs law) in
      let price : cost_of table ts gs ≡ cost_of table ts rows = cc in
      let rest : cores gs ++ marks ts gs ≡ cores rows ++ marks ts rows = cc in
      same_greedy limit table [] [] ts gs rows (λ c. refl) w long d (omega arith) (fronts_same (cores gs) (cores rows) (marks ts gs) (marks ts rows) (ap length s.2) rest).1 s.1 fits

  pub choice_has_chosen_cuts_lem : ChoiceHasChosenCuts accepts limit
  choice_has_chosen_cuts_lem table rows rules choice =
      greedy_at limit table [] table.tasks rows (choice_greedy table rows rules choice) (fits_length limit table [] table.tasks rows choice.lawful.fits)

-- Two cores may change their numbers: so a core need not be tried while it and a lower one are empty. Assumes nothing.
use Rattle.std.proofs.Common.{◌≡◌, ℕ, ◌+◌, ◌<◌, ◌≤◌, cond, eqb, List, [], ◌∷◌, ◌++◌, map, Some, None, Option, sym, refl, ap, ◌∙◌, subst, inl, inr, arith}
use Rattle.std.specs.List.{AllByRecursion}
use Rattle.std.proofs.lemmas.List.{map-append}
use Rattle.std.proofs.lemmas.Bool.{cases_eq}
use Rattle.std.proofs.lemmas.Bool.Decides.{nat_tests}
use Rattle.tasks.specs.Tasks.{Task, Table}
use Rattle.tasks.specs.Cuts.{overhead}
use Rattle.coretests.specs.declared.entry.Entry.{Entry}
use Rattle.cuts.specs.Allowed.{Allowed}
use Rattle.plans.specs.declared.types.Row.{Row}
use Rattle.plans.specs.declared.types.Placed.{Placed}
use Rattle.plans.specs.Plans.{place, places, on_core, Fits, Lawful, cost_of, cores, marks, rank}
use Rattle.plans.proofs.OnCore.{on_some, on_skip}
use Rattle.optimality.specs.Beginnings.{Before, Greedy, Leads, row, Spare}
use Rattle.optimality.proofs.Order.{Begins, before_begins, before_no_later, no_later_trans}
use Rattle.optimality.proofs.Steps.{Beaten, NoneBetter}

-- a and b change places
abbrev swap : ℕ → ℕ → ℕ → ℕ
swap a b x = cond (eqb x a) b (cond (eqb x b) a x)

swap_second : (a b : ℕ) → swap a b b ≡ a
swap_second a b = grind (arith, nat_tests)

swap_other : (a b x : ℕ) → (x ≡ a → ⊥) → (x ≡ b → ⊥) → swap a b x ≡ x
swap_other a b x n k = grind (arith, nat_tests)

swap_back : (a b x : ℕ) → swap a b (swap a b x) ≡ x
swap_back a b x = grind (arith, nat_tests)

-- x moves to c exactly when x is where c moves to
swap_test : (a b x c : ℕ) → eqb (swap a b x) c ≡ eqb x (swap a b c)
swap_test a b x c = grind (arith, nat_tests)

swap_within : (a b x m : ℕ) → 1 ≤ a → a ≤ m → 1 ≤ b → b ≤ m → 1 ≤ x → x ≤ m → (1 ≤ swap a b x) × (swap a b x ≤ m)
swap_within a b x m al ah bl bh xl xh = (grind (arith, nat_tests), grind (arith, nat_tests))

-- a core with no entry has no row
no_row : (limit : List Entry → ℕ → Option ℕ) (table : Table) (before : List Placed) (c : ℕ) (ts : List Task) (rs : List Row) → Greedy limit table before ts rs
    → on_core c (places table ts rs) ≡ [] → AllByRecursion (λ x. x ≡ c → ⊥) (cores rs)
no_row limit table before c ts [] g e = tt
no_row limit table before c [] (r ∷ rs) g e = absurd g
no_row limit table before c (t ∷ ts) (r ∷ rs) g e = elim (cases_eq r.core c) [
  | inl q ↦ absurd (on_some c (place table t r) (places table ts rs) q e)
  | inr n ↦ (n, no_row limit table (before ++ place table t r ∷ []) c ts rs g.3 (sym (on_skip c (place table t r) (places table ts rs) n) ∙ e))
]

-- plans with the cores a and b changed for each other
module _ (a b : ℕ) where
  abbrev turn : Row → Row
  turn r = row (swap a b r.core) r.cuts

  abbrev turns : List Row → List Row
  turns [] = []
  turns (r ∷ rs) = turn r ∷ turns rs

  abbrev move : Placed → Placed
  move p = record { row = turn p.row; entry = p.entry; overhead = p.overhead }

  on_moved : (c : ℕ) (ps : List Placed) → on_core c (map move ps) ≡ on_core (swap a b c) ps
  on_moved c [] = refl
  on_moved c (p ∷ ps) = λ i. cond (swap_test a b p.row.core c i) (p.entry ∷ on_moved c ps i) (on_moved c ps i)

  -- where neither core has been used yet, the turned plan comes earlier
  before_turned : (qs : List Row) (ps : List ℕ) → a < b → AllByRecursion (λ x. x ≡ a → ⊥) ps → AllByRecursion (λ x. x ≡ b → ⊥) ps → Begins (cores qs) (ps ++ b ∷ []) → Before (cores (turns qs)) (ps ++ b ∷ [])
  before_turned [] [] lt na nb g = absurd g
  before_turned [] (p ∷ ps) lt na nb g = absurd g
  before_turned (q ∷ qs) [] lt na nb g = inl (subst (λ (x : ℕ). swap a b x < b) (sym g.0) (subst (λ (x : ℕ). x < b) (sym (swap_second a b)) lt))
  before_turned (q ∷ qs) (p ∷ ps) lt na nb g = inr (subst (λ (x : ℕ). swap a b x ≡ p) (sym g.0) (swap_other a b p na.0 nb.0), before_turned qs ps lt na.1 nb.1 g.1)

  module _ (table : Table) where
    places_turned : (ts : List Task) (rs : List Row) → places table ts (turns rs) ≡ map move (places table ts rs)
    places_turned ts [] = refl
    places_turned [] (r ∷ rs) = refl
    places_turned (t ∷ ts) (r ∷ rs) = ap (λ (l : List Placed). place table t (turn r) ∷ l) (places_turned ts rs)

    cost_turned : (ts : List Task) (rs : List Row) → cost_of table ts (turns rs) ≡ cost_of table ts rs
    cost_turned ts [] = refl
    cost_turned [] (r ∷ rs) = refl
    cost_turned (t ∷ ts) (r ∷ rs) = ap (λ n. overhead table t r.cuts + n) (cost_turned ts rs)

    module _ (accepts : List Entry → Type 0) (limit : List Entry → ℕ → Option ℕ) (al : 1 ≤ a) (ah : a ≤ table.cores) (bl : 1 ≤ b) (bh : b ≤ table.cores) where
      fits_turned : (before : List Placed) (ts : List Task) (qs : List Row) → Fits limit table before ts qs → Fits limit table (map move before) ts (turns qs)
      fits_turned before [] [] f = tt
      fits_turned before [] (q ∷ qs) f = absurd f
      fits_turned before (t ∷ ts) [] f = absurd f
      fits_turned before (t ∷ ts) (q ∷ qs) f =
          let w = swap_within a b q.core table.cores al ah bl bh f.0.low f.0.high in
          let same : on_core (swap a b q.core) (map move before) ≡ on_core q.core before = on_moved (swap a b q.core) before ∙ ap (λ c. on_core c before) (swap_back a b q.core) in (
            record { low = w.0; high = w.1; allowed = subst (λ (l : List Entry). Allowed (limit l t.deadline) t q.cuts) (sym same) f.0.allowed },
            subst (λ (ps : List Placed). Fits limit table ps ts (turns qs)) (map-append move before (place table t q ∷ [])) (fits_turned (before ++ place table t q ∷ []) ts qs f.1),
          )

      lawful_turned : (qs : List Row) → Lawful accepts limit table qs → Lawful accepts limit table (turns qs)
      lawful_turned qs law = record {
        fits = fits_turned [] table.tasks qs law.fits;
        held = λ c some.
            let e = ap (on_core c) (places_turned table.tasks qs) ∙ on_moved c (places table table.tasks qs) in
            subst accepts (sym e) (law.held (swap a b c) (λ n. some (e ∙ n)));
      }

-- the best plan so far is no worse than any that puts the next task on a spare core
pub passed_over : (accepts : List Entry → Type 0) (limit : List Entry → ℕ → Option ℕ) (table : Table) (rs : List Row) (core : ℕ) (best : Option (List Row))
    → core ≤ table.cores → Greedy limit table [] table.tasks rs → Spare core (places table table.tasks rs)
    → Leads accepts limit table (cores rs ++ core ∷ []) best → NoneBetter accepts limit table (cores rs ++ core ∷ []) best
passed_over accepts limit table rs core best high g spare leads qs law begins =
    go best leads
    (lawful_turned lower core table accepts limit spare.low (omega (arith, spare.below)) (omega (arith, spare.below)) high qs law)
    (before_turned lower core qs (cores rs) spare.below (unused lower spare.lower_empty) (unused core spare.empty) begins)
  where
    lower : ℕ
    lower = spare.lower

    unused : (c : ℕ) → on_core c (places table table.tasks rs) ≡ [] → AllByRecursion (λ x. x ≡ c → ⊥) (cores rs)
    unused c e = no_row limit table [] c table.tasks rs g e

    turned : List Row
    turned = turns lower core qs

    go : (best : Option (List Row)) → Leads accepts limit table (cores rs ++ core ∷ []) best → Lawful accepts limit table turned
        → Before (cores turned) (cores rs ++ core ∷ []) → Beaten table best qs
    go None l law' before = l turned law' before
    go (Some p) l law' before =
        let earlier = before_begins (cores turned) (cores rs ++ core ∷ []) (cores qs) before begins in
        let rest = before_no_later (cores turned) (cores qs) (marks table.tasks turned) (marks table.tasks qs) earlier in
        no_later_trans (rank table p) (rank table turned) (rank table qs) (l.2 turned law' before) (inr (cost_turned lower core table table.tasks qs, rest))

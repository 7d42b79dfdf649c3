-- For fixed cores, the chosen cuts task by task are no worse than those of any lawful plan. Assumes nothing but the laws of the test.
use Rattle.std.proofs.Common.{◌≡◌, ℕ, suc, ◌+◌, ◌*◌, ◌≤◌, Bool, true, false, cond, eqb, List, [], ◌∷◌, ◌++◌, map, length, Some, Option, sym, refl, ap, ◌∙◌, subst, inl, inr, append_assoc, mul-le-mul_left, arith, length-append}
use lib.ListN.{length-map}
use Rattle.std.specs.List.{AllZip, AllByRecursion}
use Rattle.std.proofs.lemmas.List.{append-nil, nil_from_length}
use Rattle.std.proofs.lemmas.List.Elements.{AllZip-push, length_all_zip}
use Rattle.std.proofs.ByRecursion.{All-weaker}
use Rattle.std.proofs.lemmas.Bool.{cases_lt}
use Rattle.tasks.specs.Tasks.{Task, Table, weight}
use Rattle.tasks.specs.Cuts.{regions, cut_cost}
use Rattle.coretests.specs.declared.entry.Entry.{Entry}
use Rattle.coretests.specs.Limits.{AtMost}
use Rattle.coretests.specs.Entries.{LighterEntry, Lighter}
use Rattle.coretests.specs.Piles.{at_most_trans}
use Rattle.cuts.specs.Orders.{NoLater, mark}
use Rattle.cuts.specs.Allowed.{flags_at, Within, Allowed, cut_rank}
use Rattle.plans.specs.declared.types.Row.{Row}
use Rattle.plans.specs.declared.types.Placed.{Placed}
use Rattle.plans.specs.Plans.{place, places, on_core, Fits, Held, Lawful, cost_of, cores, marks, rank}
use Rattle.plans.proofs.OnCore.{on-append}
use Rattle.optimality.specs.Tests.{Laws}
use Rattle.optimality.specs.Beginnings.{Greedy}
use Rattle.optimality.proofs.Order.{Begins, begins_same, no_later_append, no_later_same, no_later_head, no_later_tail}

-- the rows of a beginning are on the cores of qs, and their cuts are no worse, one by one
abbrev pub Dom : List Task → List Row → List Row → Type 0
Dom ts [] qs = Unit {0}
Dom [] (r ∷ rs) qs = ⊥
Dom (t ∷ ts) (r ∷ rs) [] = ⊥
Dom (t ∷ ts) (r ∷ rs) (q ∷ qs) = (r.core ≡ q.core) × NoLater (cut_rank t r.cuts) (cut_rank t q.cuts) × Dom ts rs qs

-- the second is the first with a load that is no greater
pub record Lower (x y : Placed) : Type 0 where
  pub core : y.row.core ≡ x.row.core
  pub entry : LighterEntry x.entry y.entry

guard_lighter : (b : Bool) (x y : Entry) (xs ys : List Entry) → LighterEntry x y → Lighter xs ys → Lighter (cond b (x ∷ xs) xs) (cond b (y ∷ ys) ys)
guard_lighter true x y xs ys e l = (e, l)
guard_lighter false x y xs ys e l = l

-- the list of a core is lighter
pub on_lighter : (c : ℕ) (xs ys : List Placed) → AllZip Lower xs ys → Lighter (on_core c xs) (on_core c ys)
on_lighter c [] [] l = tt
on_lighter c [] (y ∷ ys) l = absurd l
on_lighter c (x ∷ xs) [] l = absurd l
on_lighter c (x ∷ xs) (y ∷ ys) l =
    subst (λ (k : ℕ). Lighter (cond (eqb x.row.core c) (x.entry ∷ on_core c xs) (on_core c xs)) (cond (eqb k c) (y.entry ∷ on_core c ys) (on_core c ys))) (sym l.0.core)
    (guard_lighter (eqb x.row.core c) x.entry y.entry (on_core c xs) (on_core c ys) l.0.entry (on_lighter c xs ys l.1))

-- a longer limit allows no less
pub allowed_under : (a b : Option ℕ) (t : Task) (cuts : List Bool) → AtMost a b → Allowed a t cuts → Allowed b t cuts
allowed_under a b t cuts h f = record { at_points = f.at_points; short = All-weaker (Within a) (Within b) (λ n w. at_most_trans (Some n) a b w h) (regions t cuts) f.short }

pub rank_le : (t : Task) (fs gs : List Bool) → NoLater (cut_rank t fs) (cut_rank t gs) → cut_cost t fs ≤ cut_cost t gs
rank_le t fs gs d = no_later_head (cut_cost t fs) (cut_cost t gs) (map mark (flags_at t.points fs)) (map mark (flags_at t.points gs)) d

-- one flag for each point
pub flags_length : (ps : List ℕ) (fs : List Bool) → length (flags_at ps fs) ≡ length ps
flags_length [] fs = refl
flags_length (p ∷ ps) [] = ap suc (flags_length ps [])
flags_length (p ∷ ps) (f ∷ fs) = ap suc (flags_length ps fs)

pub marks-length : (ps : List ℕ) (fs gs : List Bool) → length (map mark (flags_at ps fs)) ≡ length (map mark (flags_at ps gs))
marks-length ps fs gs = length-map (flags_at ps fs) mark ∙ flags_length ps fs ∙ sym (length-map (flags_at ps gs) mark ∙ flags_length ps gs)

same_product : (w a b x y : ℕ) → 1 ≤ w → a ≤ b → x ≤ y → w * b + y ≤ w * a + x → b ≤ a
same_product w a b x y p h k e = elim (cases_lt a b) [ inl l ↦ absurd (omega (arith, mul-le-mul_left w l, w_suc)) | inr g ↦ g ]
  where
    w_suc : w * suc a ≡ w * a + w
    w_suc = omega arith

module _ (table : Table) where
  pub lower_place : (t : Task) (q r : Row) → r.core ≡ q.core → NoLater (cut_rank t r.cuts) (cut_rank t q.cuts) → Lower (place table t q) (place table t r)
  lower_place t q r e d = record { core = e; entry = record { period = refl; deadline = refl; load = omega (arith, rank_le t r.cuts q.cuts d) } }

  -- the places of qs: as many as those of the beginning, which are lower, and the rest
  pub dom_split : (ts : List Task) (rs qs : List Row) → Dom ts rs qs → (xs : List Placed) × (ys : List Placed) × (places table ts qs ≡ xs ++ ys) × AllZip Lower xs (places table ts rs)
  dom_split ts [] qs d = ([], places table ts qs, refl, tt)
  dom_split [] (r ∷ rs) qs d = absurd d
  dom_split (t ∷ ts) (r ∷ rs) [] d = absurd d
  dom_split (t ∷ ts) (r ∷ rs) (q ∷ qs) d =
      let s = dom_split ts rs qs d.2 in
      (place table t q ∷ s.0, s.1, ap (λ (l : List Placed). place table t q ∷ l) s.2, (lower_place t q r d.0 d.1, s.3))

  pub cost_le : (ts : List Task) (rs qs : List Row) → Dom ts rs qs → cost_of table ts rs ≤ cost_of table ts qs
  cost_le ts [] qs d = omega arith
  cost_le [] (r ∷ rs) qs d = absurd d
  cost_le (t ∷ ts) (r ∷ rs) [] d = absurd d
  cost_le (t ∷ ts) (r ∷ rs) (q ∷ qs) d = omega (arith, mul-le-mul_left (weight table t) (rank_le t r.cuts q.cuts d.1), cost_le ts rs qs d.2)

  -- where the costs are the same, the flags are no later
  pub marks_no_later : (ts : List Task) (rs qs : List Row) → AllByRecursion (λ t. 1 ≤ weight table t) ts → Dom ts rs qs → cost_of table ts qs ≤ cost_of table ts rs → NoLater (marks ts rs) (marks ts qs)
  marks_no_later ts [] qs w d h = tt
  marks_no_later [] (r ∷ rs) qs w d h = absurd d
  marks_no_later (t ∷ ts) (r ∷ rs) [] w d h = absurd d
  marks_no_later (t ∷ ts) (r ∷ rs) (q ∷ qs) w d h =
      let a = cut_cost t r.cuts in
      let b = cut_cost t q.cuts in
      let fs = map mark (flags_at t.points r.cuts) in
      let gs = map mark (flags_at t.points q.cuts) in
      let le : a ≤ b = rank_le t r.cuts q.cuts d.1 in
      let rest = cost_le ts rs qs d.2 in
      let more = mul-le-mul_left (weight table t) le in
      no_later_append fs gs (marks ts rs) (marks ts qs) (marks-length t.points r.cuts q.cuts)
      (no_later_tail a b fs gs (same_product (weight table t) a b (cost_of table ts rs) (cost_of table ts qs) w.0 le rest h) d.1)
      (marks_no_later ts rs qs w.1 d.2 (omega arith))

module _ (limit : List Entry → ℕ → Option ℕ) (table : Table) where
  pub fits_length : (before : List Placed) (ts : List Task) (qs : List Row) → Fits limit table before ts qs → length qs ≡ length ts
  fits_length before [] [] f = refl
  fits_length before [] (q ∷ qs) f = absurd f
  fits_length before (t ∷ ts) [] f = absurd f
  fits_length before (t ∷ ts) (q ∷ qs) f = omega (arith, fits_length (before ++ place table t q ∷ []) ts qs f.1)

  pub fits_cores : (before : List Placed) (ts : List Task) (qs : List Row) → Fits limit table before ts qs → AllByRecursion (λ c. (1 ≤ c) × (c ≤ table.cores)) (cores qs)
  fits_cores before [] [] f = tt
  fits_cores before [] (q ∷ qs) f = absurd f
  fits_cores before (t ∷ ts) [] f = absurd f
  fits_cores before (t ∷ ts) (q ∷ qs) f = ((f.0.low, f.0.high), fits_cores (before ++ place table t q ∷ []) ts qs f.1)

  -- a beginning with a row for each task fits
  pub greedy_fits : (before : List Placed) (ts : List Task) (rs : List Row) → Greedy limit table before ts rs → length rs ≡ length ts → Fits limit table before ts rs
  greedy_fits before [] [] g l = tt
  greedy_fits before (t ∷ ts) [] g l = absurd (omega arith)
  greedy_fits before [] (r ∷ rs) g l = absurd g
  greedy_fits before (t ∷ ts) (r ∷ rs) g l =
      (record { low = g.0; high = g.1; allowed = g.2.allowed }, greedy_fits (before ++ place table t r ∷ []) ts rs g.3 (omega arith))

module _ {accepts : List Entry → Type 0} {limit : List Entry → ℕ → Option ℕ} (laws : Laws accepts limit) where
  -- behind lower places the limit is no shorter
  pub longer_at : (before before' : List Placed) (c k d : ℕ) → k ≡ c → AllZip Lower before' before → AtMost (limit (on_core k before') d) (limit (on_core c before) d)
  longer_at before before' c k d e l =
      subst (λ (x : ℕ). AtMost (limit (on_core x before') d) (limit (on_core c before) d)) (sym e) (laws.longer (on_core c before') (on_core c before) d (on_lighter c before' before l))

  -- an accepted list is accepted without its last entries
  pub fewer_all : (ys xs : List Entry) → accepts (xs ++ ys) → accepts xs
  fewer_all [] xs a = subst accepts (append-nil xs) a
  fewer_all (y ∷ ys) xs a = laws.fewer xs y (fewer_all ys (xs ++ y ∷ []) (subst accepts (sym (append_assoc xs (y ∷ []) ys)) a))

  module _ (table : Table) where
    -- the chosen cuts task by task are no worse, one by one, than those of any plan on the same cores
    pub dom : (before before' : List Placed) (ts : List Task) (rs qs : List Row) → AllZip Lower before' before
        → Greedy limit table before ts rs → Fits limit table before' ts qs → Begins (cores qs) (cores rs) → Dom ts rs qs
    dom before before' ts [] qs l g f b = tt
    dom before before' [] (r ∷ rs) qs l g f b = absurd g
    dom before before' (t ∷ ts) (r ∷ rs) [] l g f b = absurd f
    dom before before' (t ∷ ts) (r ∷ rs) (q ∷ qs) l g f b =
        let lim = limit (on_core r.core before) t.deadline in
        let lim' = limit (on_core q.core before') t.deadline in
        let fair : Allowed lim t q.cuts = allowed_under lim' lim t q.cuts (longer_at before before' r.core q.core t.deadline b.0 l) f.0.allowed in
        let d : NoLater (cut_rank t r.cuts) (cut_rank t q.cuts) = g.2.least q.cuts fair in
        let low = AllZip-push Lower before' before (place table t q) (place table t r) l (lower_place table t q r (sym b.0) d) in
        (sym b.0, d, dom (before ++ place table t r ∷ []) (before' ++ place table t q ∷ []) ts rs qs low g.3 f.1 b.1)

    -- a beginning of a lawful plan, made no worse, is held
    pub held_dom : (ts : List Task) (rs qs : List Row) → Dom ts rs qs → Held accepts (places table ts qs) → Held accepts (places table ts rs)
    held_dom ts rs qs d h c some =
        let s = dom_split table ts rs qs d in
        let mine = on_core c (places table ts rs) in
        let e : on_core c (places table ts qs) ≡ on_core c s.0 ++ on_core c s.1 = ap (on_core c) s.2 ∙ on-append c s.0 s.1 in
        let l : Lighter (on_core c s.0) mine = on_lighter c s.0 (places table ts rs) s.3 in
        let long = length_all_zip LighterEntry (on_core c s.0) mine l in
        let both = length-append (on_core c s.0) (on_core c s.1) in
        let some' : (on_core c (places table ts qs) ≡ [] → ⊥) = λ n. some (nil_from_length mine (omega (arith, long, both, ap length e, ap length n))) in
        laws.lighter (on_core c s.0) mine l (fewer_all (on_core c s.1) (on_core c s.0) (subst accepts e (h c some')))

    -- the chosen cuts of given cores make the choice among the lawful plans on these cores
    pub greedy_least : (rs qs : List Row) → AllByRecursion (λ t. 1 ≤ weight table t) table.tasks → Greedy limit table [] table.tasks rs
        → Lawful accepts limit table qs → cores qs ≡ cores rs → NoLater (rank table rs) (rank table qs)
    greedy_least rs qs w g law e =
        let ts = table.tasks in
        let d = dom [] [] ts rs qs tt g law.fits (subst (λ (x : List ℕ). Begins x (cores rs)) (sym e) (begins_same (cores rs))) in
        let le = cost_le table ts rs qs d in
        elim (cases_lt (cost_of table ts rs) (cost_of table ts qs)) [
          | inl l ↦ inl l
          | inr h ↦
              let flags = no_later_append (cores rs) (cores rs) (marks ts rs) (marks ts qs) refl (no_later_same (cores rs)) (marks_no_later table ts rs qs w d h) in
              inr (omega arith, subst (λ (x : List ℕ). NoLater (cores rs ++ marks ts rs) (x ++ marks ts qs)) (sym e) flags)
        ]

-- A plan is lawful exactly if nothing is wrong with its rows and no core is overloaded. Assumes nothing.
use Rattle.std.proofs.Common.{◌≡◌, ℕ, ◌+◌, ◌<◌, ◌≤◌, Bool, true, false, cond, not, eqb, leb, List, [], ◌∷◌, ◌++◌, length, Some, None, Err, Option, sym, refl, ap, ◌∙◌, subst, inl, inr, ⊎_elim, arith}
use Rattle.std.proofs.lemmas.Bool.{and_parts, and_from, leb-true, le-leb, eqb-true, eq-eqb, cases_lt}
use Rattle.tasks.specs.Tasks.{Task, Table, between, every, empty_on}
use Rattle.tasks.specs.Cuts.{regions}
use Rattle.tasks.specs.Refusals.{first_of}
use Rattle.tasks.specs.declared.refusal.Refusal.{Refusal}
use Rattle.tasks.specs.declared.refusal.Refusal.TheVariants.{WrongRow, WrongCut, LongRegion, OverloadedCore}
use Rattle.coretests.specs.declared.entry.Entry.{Entry}
use Rattle.cuts.specs.Allowed.{cut_beyond, within}
use Rattle.cuts.proofs.Limits.{every-within_true, every-within_test}
use Rattle.plans.specs.declared.types.Row.{Row}
use Rattle.plans.specs.declared.types.Placed.{Placed}
use Rattle.plans.specs.Plans.{place, places, on_core, Suits, Fits, Lawful}
use Rattle.plans.proofs.OnCore.{on_skip}
use Rattle.clearing.specs.Refused.{or_else, row_fault, row_refusal, region_refusal, plan_refusal, FirstOverloaded}
use Rattle.clearing.specs.Examined.{rows_refusal, FirstNotHeld, Examined}

-- a refusal is told, or none is
or_else_none : (a b : Option Refusal) → or_else a b ≡ None → (a ≡ None) × (b ≡ None)
or_else_none None b e = (refl, e)
or_else_none (Some y) b e = let z : ⊥ = grind arith in absurd z

none_or_else : (a b : Option Refusal) → a ≡ None → b ≡ None → or_else a b ≡ None
none_or_else a b e f = ap (λ x. or_else x b) e ∙ f

cond_none : (b : Bool) (a : Option Refusal) (y : Refusal) → cond b a (Some y) ≡ None → (b ≡ true) × (a ≡ None)
cond_none true a y e = (refl, e)
cond_none false a y e = let z : ⊥ = grind arith in absurd z

none_cond : (b : Bool) (a : Option Refusal) (y : Refusal) → b ≡ true → a ≡ None → cond b a (Some y) ≡ None
none_cond b a y e f = ap (λ x. cond x a (Some y)) e ∙ f

two_none : (a b : Bool) (x y : Refusal) → first_of ((not a, x) ∷ (b, y) ∷ []) ≡ None → (a ≡ true) × (b ≡ false)
two_none true true x y e = let z : ⊥ = grind arith in absurd z
two_none true false x y e = (refl, refl)
two_none false b x y e = let z : ⊥ = grind arith in absurd z

none_two : (a b : Bool) (x y : Refusal) → a ≡ true → b ≡ false → first_of ((not a, x) ∷ (b, y) ∷ []) ≡ None
none_two a b x y e f = ap (λ v. first_of ((not v, x) ∷ (b, y) ∷ [])) e ∙ ap (λ v. first_of ((v, y) ∷ [])) f

module _ (limit : List Entry → ℕ → Option ℕ) (table : Table) where
  -- a row suits its task exactly if it has no fault and no region is too long
  row_suits : (at : ℕ) (before : List Placed) (t : Task) (r : Row) → row_fault table.cores at t r ≡ None → every (within (limit (on_core r.core before) t.deadline)) (regions t r.cuts) ≡ true → Suits limit table before t r
  row_suits at before t r whole short =
      let a = two_none (between 1 table.cores r.core) (cut_beyond t.points r.cuts) (WrongRow at) (WrongCut at) whole in
      let b = and_parts (leb 1 r.core) (leb r.core table.cores) a.0 in
      record {
        low = leb-true 1 r.core b.0;
        high = leb-true r.core table.cores b.1;
        allowed = record { at_points = a.1; short = every-within_true (limit (on_core r.core before) t.deadline) (regions t r.cuts) short };
      }

  suits_row : (at : ℕ) (before : List Placed) (t : Task) (r : Row) → Suits limit table before t r → row_fault table.cores at t r ≡ None
  suits_row at before t r s =
      none_two (between 1 table.cores r.core) (cut_beyond t.points r.cuts) (WrongRow at) (WrongCut at)
      (and_from (leb 1 r.core) (leb r.core table.cores) (le-leb 1 r.core s.low) (le-leb r.core table.cores s.high)) s.allowed.at_points

  pub fits_from : (at : ℕ) (before : List Placed) (ts : List Task) (rs : List Row) → length rs ≡ length ts → row_refusal table.cores at ts rs ≡ None → region_refusal limit table at before ts rs ≡ None → Fits limit table before ts rs
  fits_from at before [] [] long whole short = tt
  fits_from at before [] (r ∷ rs) long whole short = omega arith
  fits_from at before (t ∷ ts) [] long whole short = omega arith
  fits_from at before (t ∷ ts) (r ∷ rs) long whole short =
      let a = or_else_none (row_fault table.cores at t r) (row_refusal table.cores (at + 1) ts rs) whole in
      let b = cond_none (every (within (limit (on_core r.core before) t.deadline)) (regions t r.cuts)) (region_refusal limit table (at + 1) (before ++ place table t r ∷ []) ts rs) (LongRegion at) short in
      (row_suits at before t r a.0 b.0, fits_from (at + 1) (before ++ place table t r ∷ []) ts rs (omega arith) a.1 b.1)

  pub fits_long : (before : List Placed) (ts : List Task) (rs : List Row) → Fits limit table before ts rs → length rs ≡ length ts
  fits_long before [] [] f = refl
  fits_long before [] (r ∷ rs) f = absurd f
  fits_long before (t ∷ ts) [] f = absurd f
  fits_long before (t ∷ ts) (r ∷ rs) f = omega (arith, fits_long (before ++ place table t r ∷ []) ts rs f.1)

  fits_rows : (at : ℕ) (before : List Placed) (ts : List Task) (rs : List Row) → Fits limit table before ts rs → row_refusal table.cores at ts rs ≡ None
  fits_rows at before [] rs f = refl
  fits_rows at before (t ∷ ts) [] f = refl
  fits_rows at before (t ∷ ts) (r ∷ rs) f =
      none_or_else (row_fault table.cores at t r) (row_refusal table.cores (at + 1) ts rs) (suits_row at before t r f.0) (fits_rows (at + 1) (before ++ place table t r ∷ []) ts rs f.1)

  fits_regions : (at : ℕ) (before : List Placed) (ts : List Task) (rs : List Row) → Fits limit table before ts rs → region_refusal limit table at before ts rs ≡ None
  fits_regions at before [] rs f = refl
  fits_regions at before (t ∷ ts) [] f = refl
  fits_regions at before (t ∷ ts) (r ∷ rs) f =
      none_cond (every (within (limit (on_core r.core before) t.deadline)) (regions t r.cuts)) (region_refusal limit table (at + 1) (before ++ place table t r ∷ []) ts rs) (LongRegion at)
      (every-within_test (limit (on_core r.core before) t.deadline) (regions t r.cuts) f.0.allowed.short) (fits_regions (at + 1) (before ++ place table t r ∷ []) ts rs f.1)

  -- the rows of a plan suit their tasks exactly if nothing is wrong with them
  pub plan_fits : (rows : List Row) → plan_refusal limit table rows ≡ None → Fits limit table [] table.tasks rows
  plan_fits rows h =
      let a = cond_none (eqb (length rows) (length table.tasks)) (or_else (row_refusal table.cores 1 table.tasks rows) (region_refusal limit table 1 [] table.tasks rows)) (WrongRow 0) h in
      let b = or_else_none (row_refusal table.cores 1 table.tasks rows) (region_refusal limit table 1 [] table.tasks rows) a.1 in
      fits_from 1 [] table.tasks rows (eqb-true (length rows) (length table.tasks) a.0) b.0 b.1

  pub fits_plan : (rows : List Row) → Fits limit table [] table.tasks rows → plan_refusal limit table rows ≡ None
  fits_plan rows f =
      none_cond (eqb (length rows) (length table.tasks)) (or_else (row_refusal table.cores 1 table.tasks rows) (region_refusal limit table 1 [] table.tasks rows)) (WrongRow 0)
      (eq-eqb (length rows) (length table.tasks) (fits_long [] table.tasks rows f))
      (none_or_else (row_refusal table.cores 1 table.tasks rows) (region_refusal limit table 1 [] table.tasks rows) (fits_rows 1 [] table.tasks rows f) (fits_regions 1 [] table.tasks rows f))

  -- no task of a fitting plan is on a core that the cabinet lacks
  pub fits_outside : (c : ℕ) (before : List Placed) (ts : List Task) (rs : List Row) → Fits limit table before ts rs → (1 ≤ c → c ≤ table.cores → ⊥) → on_core c (places table ts rs) ≡ []
  fits_outside c before [] [] f out = refl
  fits_outside c before [] (r ∷ rs) f out = absurd f
  fits_outside c before (t ∷ ts) [] f out = absurd f
  fits_outside c before (t ∷ ts) (r ∷ rs) f out =
      on_skip c (place table t r) (places table ts rs) (λ e. out (subst (λ n. 1 ≤ n) e f.0.low) (subst (λ n. n ≤ table.cores) e f.0.high))
      ∙ fits_outside c (before ++ place table t r ∷ []) ts rs f.1 out

module _ (accepts : List Entry → Type 0) (limit : List Entry → ℕ → Option ℕ) (table : Table) (rows : List Row) where
  -- the cores of the cabinet speak for all
  pub lawful_from : plan_refusal limit table rows ≡ None
      → ((c : ℕ) → 1 ≤ c → c ≤ table.cores → (on_core c (places table table.tasks rows) ≡ [] → ⊥) → accepts (on_core c (places table table.tasks rows)))
      → Lawful accepts limit table rows
  lawful_from none held =
      let f = plan_fits limit table rows none in
      let outside : (c : ℕ) → (1 ≤ c → c ≤ table.cores → ⊥) → on_core c (places table table.tasks rows) ≡ [] = λ c. fits_outside limit table c [] table.tasks rows f in
      record {
        fits = f;
        held = λ c some. ⊎_elim
            (λ (h : c < 1). absurd (some (outside c (λ low high. omega arith))))
            (λ (low : 1 ≤ c). ⊎_elim (λ (h : table.cores < c). absurd (some (outside c (λ low high. omega arith)))) (λ (high : c ≤ table.cores). held c low high some) (cases_lt table.cores c))
            (cases_lt c 1);
      }

  pub refused_unlawful : (y : Refusal) → plan_refusal limit table rows ≡ Some y → Lawful accepts limit table rows → ⊥
  refused_unlawful y told l = let none = fits_plan limit table rows l.fits in grind arith

  pub overloaded_unlawful : (core : ℕ) → FirstOverloaded accepts table rows core → Lawful accepts limit table rows → ⊥
  overloaded_unlawful core o l = o.overloaded (l.held core o.some)

  -- the rows come first, and then their regions
  plan_parts : plan_refusal limit table rows ≡ or_else (rows_refusal table rows) (region_refusal limit table 1 [] table.tasks rows)
  plan_parts =
      elim (eqb (length rows) (length table.tasks)) as (λ b. cond b (or_else (row_refusal table.cores 1 table.tasks rows) (region_refusal limit table 1 [] table.tasks rows)) (Some (WrongRow 0)) ≡ or_else (cond b (row_refusal table.cores 1 table.tasks rows) (Some (WrongRow 0))) (region_refusal limit table 1 [] table.tasks rows))
      [ true ↦ refl | false ↦ refl ]

  plan_refused : (y : Refusal) → plan_refusal limit table rows ≡ Some y → Examined accepts limit table rows (Err y)
  plan_refused y told = (refused_unlawful y told, inl told)

  pub rows_refused : (y : Refusal) → Some y ≡ rows_refusal table rows → Examined accepts limit table rows (Err y)
  rows_refused y told = plan_refused y (plan_parts ∙ ap (λ o. or_else o (region_refusal limit table 1 [] table.tasks rows)) (sym told))

  module _ (whole : None ≡ rows_refusal table rows) where
    rows_whole : plan_refusal limit table rows ≡ region_refusal limit table 1 [] table.tasks rows
    rows_whole = plan_parts ∙ ap (λ o. or_else o (region_refusal limit table 1 [] table.tasks rows)) (sym whole)

    pub rows_count : length rows ≡ length table.tasks
    rows_count = eqb-true (length rows) (length table.tasks) (cond_none (eqb (length rows) (length table.tasks)) (row_refusal table.cores 1 table.tasks rows) (WrongRow 0) (sym whole)).0

    pub regions-refused : (y : Refusal) → Some y ≡ region_refusal limit table 1 [] table.tasks rows → Examined accepts limit table rows (Err y)
    regions-refused y told = plan_refused y (rows_whole ∙ sym told)

    module _ (short : None ≡ region_refusal limit table 1 [] table.tasks rows) (ps : List Placed) (is : ps ≡ places table table.tasks rows) where
      pub core_refused : (core : ℕ) → FirstNotHeld accepts table.cores ps (Some core) → Examined accepts limit table rows (Err (OverloadedCore core))
      core_refused core told =
          let at : FirstNotHeld accepts table.cores (places table table.tasks rows) (Some core) = subst (λ l. FirstNotHeld accepts table.cores l (Some core)) is told in
          let first : FirstOverloaded accepts table rows core = record { low = at.0; high = at.1; some = λ e. at.2 (λ some. absurd (some e)); overloaded = λ a. at.2 (λ _. a); first = at.3 } in
          (overloaded_unlawful core first, inr (rows_whole ∙ sym short, (core, first, refl)))

      pub none-refused : FirstNotHeld accepts table.cores ps None → Lawful accepts limit table rows
      none-refused held = lawful_from (rows_whole ∙ sym short) (subst (λ l. FirstNotHeld accepts table.cores l None) is held)

-- an empty table has its empty plan, under every test
pub empty_lawful : (accepts : List Entry → Type 0) (limit : List Entry → ℕ → Option ℕ) (cores : ℕ) → Lawful accepts limit (empty_on cores) []
empty_lawful accepts limit cores = record { fits = tt; held = λ c some. absurd (some refl) }

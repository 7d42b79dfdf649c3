-- What each move of the search keeps. Assumes nothing but the laws of the test.
use Rattle.std.proofs.Common.{◌≡◌, ℕ, suc, ◌+◌, ◌-◌, ◌<◌, ◌≤◌, true, false, List, [], ◌∷◌, ◌++◌, length, Some, None, Option, sym, refl, ap, ◌∙◌, subst, add-one, arith, length-append}
use Rattle.std.specs.Option.{option_map}
use Rattle.std.specs.List.{AllByRecursion}
use Rattle.std.proofs.lemmas.List.{same_from_push, nil_from_length}
use Rattle.std.proofs.lemmas.Bool.{ltb-true, ltb-false}
use Rattle.tasks.specs.Tasks.{Task, Table, weight}
use Rattle.coretests.specs.declared.entry.Entry.{Entry}
use Rattle.cuts.specs.Allowed.{LeastCuts}
use Rattle.plans.specs.declared.types.Row.{Row}
use Rattle.plans.specs.declared.types.Placed.{Placed}
use Rattle.plans.specs.Plans.{place, places, on_core, Held, Lawful, cost, cores}
use Rattle.optimality.specs.Tests.{Laws}
use Rattle.optimality.specs.Beginnings.{Before, Begun, Leads, Cheaper, Unplaceable, Spare}
use Rattle.optimality.proofs.Order.{Begins}
use Rattle.optimality.proofs.Steps as steps
use Rattle.optimality.proofs.Steps.{Here, cores_push, cores-length, places_push, cost_push, greedy_pop, greedy_last, held_pop}
use Rattle.optimality.proofs.Symmetry.{passed_over}
use Rattle.planning.specs.declared.types.Planned.{Planned}
use Rattle.planning.specs.Planning.{rows_of}
use Rattle.planning.specs.Walk.{Priced, Over, Ended, PutWell, beats, left}
use Rattle.planning.proofs.Measure.{left_back}

pub places-length : (table : Table) (ts : List Task) (rs : List Row) → length rs ≤ length ts → length (places table ts rs) ≡ length rs
places-length table ts [] h = refl
places-length table [] (r ∷ rs) h = absurd (omega arith)
places-length table (t ∷ ts) (r ∷ rs) h = ap suc (places-length table ts rs (omega arith))

module _ {accepts : List Entry → Type 0} {limit : List Entry → ℕ → Option ℕ} (laws : Laws accepts limit) (table : Table) (rs : List Row) (ps : List Placed) (core price : ℕ) (best : Option Planned) (over : Over accepts limit table rs ps core price best) where
  abbrev in_hand : Option (List Row)
  in_hand = option_map rows_of best

  abbrev before : List Placed
  before = places table table.tasks rs

  -- THE NEXT CORE, where no plan that goes on from the present beginning is better
  pub move_next : core ≤ table.cores → ((qs : List Row) → Lawful accepts limit table qs → Begins (cores qs) (cores rs ++ core ∷ []) → steps.Beaten table in_hand qs) → Over accepts limit table rs ps (core + 1) price best
  move_next h beaten = record {
    short = over.short;
    low = omega arith;
    high = omega arith;
    placed_are = over.placed_are;
    price_is = over.price_is;
    begun = over.begun;
    leads = subst (λ (k : ℕ). Leads accepts limit table (cores rs ++ k ∷ []) in_hand) (sym (add-one core)) (steps.leads_next laws table (cores rs) core in_hand beaten over.leads);
    priced = over.priced;
  }

  pub move_spare : core ≤ table.cores → Spare core ps → Over accepts limit table rs ps (core + 1) price best
  move_spare h spare = move_next h (passed_over accepts limit table rs core in_hand h over.begun.greedy (subst (Spare core) over.placed_are spare) over.leads)

  -- THE NEXT TASK, on the present core
  module _ (t : Task) (here : Here table.tasks rs t) (h : core ≤ table.cores) where
    pub move_unplaceable : PutWell accepts limit (weight table t) ps t core None → Over accepts limit table rs ps (core + 1) price best
    move_unplaceable well = move_next h (steps.unplaceable laws table rs t here over.begun core over.low h in_hand (subst (λ (xs : List Placed). Unplaceable accepts limit table xs t core) over.placed_are (well table)))

    module _ (f : Placed) (well : PutWell accepts limit (weight table t) ps t core (Some f)) where
      abbrev k : ℕ
      k = f.row.core

      abbrev more : List Row
      more = rs ++ f.row ∷ []

      well' : PutWell accepts limit (weight table t) before t core (Some f)
      well' = subst (λ (xs : List Placed). PutWell accepts limit (weight table t) xs t core (Some f)) over.placed_are well

      core_is : k ≡ core
      core_is = well'.0

      pub placed_is : f ≡ place table t f.row
      placed_is = well'.1

      least : LeastCuts (limit (on_core k before) t.deadline) t f.row.cuts
      least = subst (λ (x : ℕ). LeastCuts (limit (on_core x before) t.deadline) t f.row.cuts) (sym core_is) well'.2

      accepted : accepts (on_core k before ++ (place table t f.row).entry ∷ [])
      accepted = subst (λ (x : ℕ). accepts (on_core x before ++ (place table t f.row).entry ∷ [])) (sym core_is) (subst (λ (x : Placed). accepts (on_core core before ++ x.entry ∷ [])) placed_is well'.3)

      k_low : 1 ≤ k
      k_low = omega (arith, core_is, over.low)

      k_high : k ≤ table.cores
      k_high = omega (arith, core_is)

      leads_k : Leads accepts limit table (cores rs ++ k ∷ []) in_hand
      leads_k = subst (λ (x : ℕ). Leads accepts limit table (cores rs ++ x ∷ []) in_hand) (sym core_is) over.leads

      more_begun : Begun accepts limit table more
      more_begun = steps.more_begun laws table rs t here over.begun k f.row.cuts k_low k_high least accepted

      pub price_more : price + f.overhead ≡ cost table more
      price_more = omega (arith, over.price_is, ap (λ (x : Placed). x.overhead) placed_is, cost_push table table.tasks rs t f.row here)

      more-length : length more ≡ length rs + 1
      more-length = length-append rs (f.row ∷ [])

      -- it costs no less than the plan in hand
      pub move_dear : beats (price + f.overhead) best ≡ false → Over accepts limit table rs ps (core + 1) price best
      move_dear dear = move_next h (go best dear over.priced over.leads)
        where
          go : (b : Option Planned) → beats (price + f.overhead) b ≡ false → Priced table b → Leads accepts limit table (cores rs ++ core ∷ []) (option_map rows_of b) → (qs : List Row) → Lawful accepts limit table qs → Begins (cores qs) (cores rs ++ core ∷ []) → steps.Beaten table (option_map rows_of b) qs
          go None e pr l = let z : ◌≡◌ {A = ℕ} 0 1 = cc in absurd (omega arith)
          go (Some b) e pr l =
              subst (λ (x : ℕ). Before (cores (rows_of b)) (cores rs ++ x ∷ []) → (qs : List Row) → Lawful accepts limit table qs → Begins (cores qs) (cores rs ++ x ∷ []) → steps.Beaten table (Some (rows_of b)) qs) core_is
              (steps.too_dear laws table rs t here over.begun k f.row.cuts k_low k_high least (rows_of b) (omega (arith, ltb-false (price + f.overhead) b.cost e, pr, price_more)))
              l.1

      -- ONE TASK FURTHER DOWN
      pub move_deeper : length rs + 1 < length table.tasks → Over accepts limit table more (ps ++ f ∷ []) 1 (price + f.overhead) best
      move_deeper short = record {
        short = omega (arith, more-length);
        low = omega arith;
        high = omega arith;
        placed_are = (λ i. over.placed_are i ++ placed_is i ∷ []) ∙ sym (places_push table table.tasks rs t f.row here);
        price_is = price_more;
        begun = more_begun;
        leads = subst (λ (x : List ℕ). Leads accepts limit table (x ++ 1 ∷ []) in_hand) (sym (cores_push rs f.row)) (steps.leads_deeper laws table (cores rs ++ k ∷ []) in_hand leads_k);
        priced = over.priced;
      }

      pub cores-more : cores more ≡ cores rs ++ core ∷ []
      cores-more = cores_push rs f.row ∙ ap (λ (x : ℕ). cores rs ++ x ∷ []) core_is

      -- A WHOLE PLAN, cheaper than the one in hand
      cheaper : (b : Option Planned) → beats (price + f.overhead) b ≡ true → Priced table b → Cheaper table (cost table more) (option_map rows_of b)
      cheaper None e pr = tt
      cheaper (Some b) e pr = omega (arith, ltb-true (price + f.overhead) b.cost e, pr, price_more)

      pub move_whole : AllByRecursion (λ t. 1 ≤ weight table t) table.tasks → length rs + 1 ≡ length table.tasks → beats (price + f.overhead) best ≡ true → (p : Planned) → rows_of p ≡ more → p.cost ≡ price + f.overhead → Over accepts limit table rs ps (core + 1) price (Some p)
      move_whole heavy full cheap p rows cost_is =
          let led = steps.whole laws table rs t here over.begun k f.row.cuts k_low k_high least heavy more_begun (more-length ∙ full) in_hand (cheaper best cheap over.priced) leads_k in
          record {
            short = over.short;
            low = omega arith;
            high = omega arith;
            placed_are = over.placed_are;
            price_is = over.price_is;
            begun = over.begun;
            leads = subst (λ (x : List Row). Leads accepts limit table (cores rs ++ (core + 1) ∷ []) (Some x)) (sym rows) (subst (λ (x : ℕ). Leads accepts limit table (cores rs ++ x ∷ []) (Some more)) (ap suc core_is ∙ sym (add-one core)) led);
            priced = cost_is ∙ price_more ∙ ap (cost table) (sym rows);
          }

  -- THE END
  pub move_end : table.cores < core → ps ≡ [] → Ended accepts limit table best
  move_end h none = go best over.priced (steps.leads_end laws table core in_hand h (omega (arith, over.short)) (subst (λ (x : List Row). Leads accepts limit table (cores x ++ core ∷ []) in_hand) nothing over.leads))
    where
      nothing : rs ≡ []
      nothing = nil_from_length rs (omega (arith, places-length table table.tasks rs (omega (arith, over.short)), ap length (sym over.placed_are ∙ none)))

      go : (b : Option Planned) → Priced table b → steps.Final laws table (option_map rows_of b) → Ended accepts limit table b
      go None pr f = f
      go (Some b) pr f = (f, pr)

  -- BACK TO THE TASK BEFORE
  module _ (h : table.cores < core) (rs₀ : List Row) (r : Row) (ps₀ : List Placed) (p : Placed) (rows : rs ≡ rs₀ ++ r ∷ []) (placed : ps ≡ ps₀ ++ p ∷ []) (t : Task) (here : Here table.tasks rs₀ t) where
    pushed : (ps₀ ≡ places table table.tasks rs₀) × (p ≡ place table t r)
    pushed = same_from_push ps₀ (places table table.tasks rs₀) p (place table t r) (sym placed ∙ over.placed_are ∙ ap (places table table.tasks) rows ∙ places_push table table.tasks rs₀ t r here)

    last_core : p.row.core ≡ r.core
    last_core = ap (λ (x : Placed). x.row.core) pushed.1

    priced_last : price ≡ cost table rs₀ + p.overhead
    priced_last = over.price_is ∙ ap (cost table) rows ∙ cost_push table table.tasks rs₀ t r here ∙ ap (λ (x : Placed). cost table rs₀ + x.overhead) (sym pushed.1)

    pub back_price : p.overhead ≤ price
    back_price = omega (arith, priced_last)

    begun_last : Begun accepts limit table (rs₀ ++ r ∷ [])
    begun_last = subst (Begun accepts limit table) rows over.begun

    pub back_core : p.row.core ≤ table.cores
    back_core = omega (arith, last_core, (greedy_last limit table [] table.tasks rs₀ r begun_last.greedy).1)

    length_last : length rs ≡ length rs₀ + 1
    length_last = ap length rows ∙ length-append rs₀ (r ∷ [])

    cores_last : cores rs ≡ cores rs₀ ++ p.row.core ∷ []
    cores_last = ap cores rows ∙ cores_push rs₀ r ∙ ap (λ (x : ℕ). cores rs₀ ++ x ∷ []) (sym last_core)

    pub move_back : Over accepts limit table rs₀ ps₀ (p.row.core + 1) (price - p.overhead) best
    move_back =
        let led : Leads accepts limit table ((cores rs₀ ++ p.row.core ∷ []) ++ core ∷ []) in_hand = subst (λ (x : List ℕ). Leads accepts limit table (x ++ core ∷ []) in_hand) cores_last over.leads in
        record {
          short = omega (arith, over.short, length_last);
          low = omega arith;
          high = omega (arith, back_core);
          placed_are = pushed.0;
          price_is = omega (arith, priced_last);
          begun = record { greedy = greedy_pop limit table [] table.tasks rs₀ r begun_last.greedy; held = held_pop laws (places table table.tasks rs₀) (place table t r) (subst (Held accepts) (places_push table table.tasks rs₀ t r here) begun_last.held) };
          leads = subst (λ (x : ℕ). Leads accepts limit table (cores rs₀ ++ x ∷ []) in_hand) (sym (add-one p.row.core)) (steps.leads_back laws table (cores rs₀) p.row.core core in_hand h (omega (arith, cores-length rs₀, length_last, over.short)) led);
          priced = over.priced;
        }

    pub back_fewer : left table.cores (length table.tasks) (cores rs₀) (p.row.core + 1) < left table.cores (length table.tasks) (cores rs) core
    back_fewer = subst (λ (x : List ℕ). left table.cores (length table.tasks) (cores rs₀) (p.row.core + 1) < left table.cores (length table.tasks) x core) (sym cores_last) (left_back table.cores (length table.tasks) (cores rs₀) p.row.core core (omega (arith, cores-length rs₀, length_last, over.short)) over.high)

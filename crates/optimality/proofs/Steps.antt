-- What a search through the core numbers in dictionary order knows at each step. Assumes nothing but the laws of the test.
use Rattle.std.proofs.Common.{◌≡◌, ℕ, suc, ◌+◌, ◌<◌, ◌≤◌, Bool, List, [], ◌∷◌, ◌++◌, length, get_or, Some, None, Option, sym, refl, ap, ◌∙◌, subst, inl, inr, append_assoc, arith, length-append, MatchOption}
use Rattle.std.specs.List.{AllZip, AllByRecursion}
use Rattle.std.proofs.lemmas.List.{append-nil}
use Rattle.std.proofs.lemmas.List.Elements.{AllZip-push}
use Rattle.std.proofs.ByRecursion.{All-weaker}
use Rattle.std.proofs.lemmas.Bool.{cases_lt, cases_eq}
use Rattle.tasks.specs.Tasks.{Task, Table, weight}
use Rattle.tasks.specs.Cuts.{overhead}
use Rattle.coretests.specs.declared.entry.Entry.{Entry}
use Rattle.cuts.specs.Orders.{NoLater}
use Rattle.cuts.specs.Allowed.{Allowed, LeastCuts}
use Rattle.plans.specs.declared.types.Row.{Row}
use Rattle.plans.specs.declared.types.Placed.{Placed}
use Rattle.plans.specs.Plans.{place, places, on_core, Fits, Held, Lawful, cost_of, cost, cores, marks, rank, Choice}
use Rattle.plans.proofs.OnCore.{on-append, on_push, on_other}
use Rattle.optimality.specs.Tests.{Laws}
use Rattle.optimality.specs.Beginnings.{Before, Greedy, Begun, Leads, Cheaper, row, Unplaceable}
use Rattle.optimality.proofs.Order.{Begins, next_place, before_next, begins_next, before_deeper, before_more, begins_below, before_begins, before_no_later, before_split, begins_whole, begins_same}
use Rattle.optimality.proofs.Greedy.{Dom, Lower, allowed_under, longer_at, lower_place, cost_le, fits_length, fits_cores, greedy_fits, dom, fewer_all, held_dom, greedy_least}

-- t is the task after those that have a row
abbrev pub Here : List Task → List Row → Task → Type 0
Here [] rs t = ⊥
Here (x ∷ ts) [] t = x ≡ t
Here (x ∷ ts) (r ∷ rs) t = Here ts rs t

pub here_get : (ts : List Task) (rs : List Row) (d : Task) → length rs < length ts → Here ts rs (get_or ts (length rs) d)
here_get [] rs d l = absurd (omega arith)
here_get (x ∷ ts) [] d l = refl
here_get (x ∷ ts) (r ∷ rs) d l = here_get ts rs d (omega arith)

pub cores_push : (rs : List Row) (r : Row) → cores (rs ++ r ∷ []) ≡ cores rs ++ r.core ∷ []
cores_push [] r = refl
cores_push (x ∷ rs) r = ap (λ (l : List ℕ). x.core ∷ l) (cores_push rs r)

pub cores-length : (rs : List Row) → length (cores rs) ≡ length rs
cores-length [] = refl
cores-length (r ∷ rs) = ap suc (cores-length rs)

-- one row more
module _ (table : Table) where
  pub places_push : (ts : List Task) (rs : List Row) (t : Task) (r : Row) → Here ts rs t → places table ts (rs ++ r ∷ []) ≡ places table ts rs ++ place table t r ∷ []
  places_push [] rs t r h = absurd h
  places_push (x ∷ ts) [] t r h = ap (λ (y : Task). place table y r ∷ []) h
  places_push (x ∷ ts) (a ∷ rs) t r h = ap (λ (l : List Placed). place table x a ∷ l) (places_push ts rs t r h)

  pub cost_push : (ts : List Task) (rs : List Row) (t : Task) (r : Row) → Here ts rs t → cost_of table ts (rs ++ r ∷ []) ≡ cost_of table ts rs + overhead table t r.cuts
  cost_push [] rs t r h = absurd h
  cost_push (x ∷ ts) [] t r h = omega (arith, ap (λ (y : Task). overhead table y r.cuts) h)
  cost_push (x ∷ ts) (a ∷ rs) t r h = omega (arith, cost_push ts rs t r h)

module _ (limit : List Entry → ℕ → Option ℕ) (table : Table) where
  pub greedy_last : (before : List Placed) (ts : List Task) (rs : List Row) (r : Row) → Greedy limit table before ts (rs ++ r ∷ []) → (1 ≤ r.core) × (r.core ≤ table.cores)
  greedy_last before [] [] r g = absurd g
  greedy_last before (t ∷ ts) [] r g = (g.0, g.1)
  greedy_last before [] (x ∷ rs) r g = absurd g
  greedy_last before (t ∷ ts) (x ∷ rs) r g = greedy_last (before ++ place table t x ∷ []) ts rs r g.3

  pub greedy_pop : (before : List Placed) (ts : List Task) (rs : List Row) (r : Row) → Greedy limit table before ts (rs ++ r ∷ []) → Greedy limit table before ts rs
  greedy_pop before ts [] r g = tt
  greedy_pop before [] (x ∷ rs) r g = absurd g
  greedy_pop before (t ∷ ts) (x ∷ rs) r g = (g.0, g.1, g.2, greedy_pop (before ++ place table t x ∷ []) ts rs r g.3)

  pub greedy_push : (before : List Placed) (ts : List Task) (rs : List Row) (t : Task) (r : Row) → Here ts rs t → 1 ≤ r.core → r.core ≤ table.cores → Greedy limit table before ts rs
      → LeastCuts (limit (on_core r.core (before ++ places table ts rs)) t.deadline) t r.cuts → Greedy limit table before ts (rs ++ r ∷ [])
  greedy_push before [] rs t r h a b g l = absurd h
  greedy_push before (x ∷ ts) [] t r h a b g l =
      let l' : LeastCuts (limit (on_core r.core before) t.deadline) t r.cuts = subst (λ (ps : List Placed). LeastCuts (limit (on_core r.core ps) t.deadline) t r.cuts) (append-nil before) l in
      (a, b, subst (λ (y : Task). LeastCuts (limit (on_core r.core before) y.deadline) y r.cuts) (sym h) l', tt)
  greedy_push before (x ∷ ts) (q ∷ rs) t r h a b g l =
      let l' = subst (λ (ps : List Placed). LeastCuts (limit (on_core r.core ps) t.deadline) t r.cuts) (sym (append_assoc before (place table x q ∷ []) (places table ts rs))) l in
      (g.0, g.1, g.2, greedy_push (before ++ place table x q ∷ []) ts rs t r h a b g.3 l')

nonempty : (xs : List Entry) (x : Entry) → xs ++ x ∷ [] ≡ [] → ⊥
nonempty xs x e = omega (arith, length-append xs (x ∷ []), ap length e)

pub held_push : (accepts : List Entry → Type 0) (ps : List Placed) (p : Placed) → Held accepts ps → accepts (on_core p.row.core ps ++ p.entry ∷ [])
    → Held accepts (ps ++ p ∷ [])
held_push accepts ps p h a c some = elim (cases_eq p.row.core c) [
  | inl e ↦ subst accepts (sym (on_push c ps p e)) (subst (λ (k : ℕ). accepts (on_core k ps ++ p.entry ∷ [])) e a)
  | inr n ↦ let e = on_other c ps p n in subst accepts (sym e) (h c (λ none. some (e ∙ none)))
]

module _ {accepts : List Entry → Type 0} {limit : List Entry → ℕ → Option ℕ} (laws : Laws accepts limit) where
  pub held_pop : (ps : List Placed) (p : Placed) → Held accepts (ps ++ p ∷ []) → Held accepts ps
  held_pop ps p h c some =
      let e = on-append c ps (p ∷ []) in
      fewer_all laws (on_core c (p ∷ [])) (on_core c ps) (subst accepts e (h c (λ n. some (front_nil (on_core c ps) (on_core c (p ∷ [])) (sym e ∙ n)))))
    where
      front_nil : (xs ys : List Entry) → xs ++ ys ≡ [] → xs ≡ []
      front_nil [] ys e = refl
      front_nil (x ∷ xs) ys e = let z : ◌≡◌ {A = ℕ} 0 1 = cc in absurd (omega arith)

-- the best plan so far is no worse than qs
abbrev pub Beaten : Table → Option (List Row) → List Row → Type 0
Beaten table None qs = ⊥
Beaten table (Some best) qs = NoLater (rank table best) (rank table qs)

-- and than any lawful plan whose core numbers begin so
abbrev pub NoneBetter : (List Entry → Type 0) → (List Entry → ℕ → Option ℕ) → Table → List ℕ → Option (List Row) → Type 0
NoneBetter accepts limit table begin best = (qs : List Row) → Lawful accepts limit table qs → Begins (cores qs) begin → Beaten table best qs

module _ {accepts : List Entry → Type 0} {limit : List Entry → ℕ → Option ℕ} (laws : Laws accepts limit) (table : Table) where
  -- a plan that goes on from a beginning cuts the next task within the beginning's limit
  next_allowed : (before before' : List Placed) (ts : List Task) (rs qs : List Row) (t : Task) (c : ℕ) → Here ts rs t → AllZip Lower before' before
      → Greedy limit table before ts rs → Fits limit table before' ts qs → Begins (cores qs) (cores rs ++ c ∷ [])
      → (cuts : List Bool) × Allowed (limit (on_core c (before ++ places table ts rs)) t.deadline) t cuts
  next_allowed before before' [] rs qs t c h l g f b = absurd h
  next_allowed before before' (x ∷ ts) [] [] t c h l g f b = absurd b
  next_allowed before before' (x ∷ ts) [] (q ∷ qs) t c h l g f b =
      let lim = limit (on_core c before) x.deadline in
      let lim' = limit (on_core q.core before') x.deadline in
      let a : Allowed lim x q.cuts = allowed_under lim' lim x q.cuts (longer_at laws before before' c q.core x.deadline b.0 l) f.0.allowed in
      let a' : Allowed (limit (on_core c before) t.deadline) t q.cuts = subst (λ (y : Task). Allowed (limit (on_core c before) y.deadline) y q.cuts) h a in
      (q.cuts, subst (λ (ps : List Placed). Allowed (limit (on_core c ps) t.deadline) t q.cuts) (sym (append-nil before)) a')
  next_allowed before before' (x ∷ ts) (r ∷ rs) [] t c h l g f b = absurd b
  next_allowed before before' (x ∷ ts) (r ∷ rs) (q ∷ qs) t c h l g f b =
      let d = dom laws table before before' (x ∷ ts) (r ∷ []) (q ∷ qs) l (g.0, g.1, g.2, tt) f (b.0, tt) in
      let low = AllZip-push Lower before' before (place table x q) (place table x r) l (lower_place table x q r d.0 d.1) in
      let n = next_allowed (before ++ place table x r ∷ []) (before' ++ place table x q ∷ []) ts rs qs t c h low g.3 f.1 b.1 in
      (n.0, subst (λ (ps : List Placed). Allowed (limit (on_core c ps) t.deadline) t n.0) (append_assoc before (place table x r ∷ []) (places table ts rs)) n.1)

  within : (qs : List Row) → Lawful accepts limit table qs → AllByRecursion (λ c. (1 ≤ c) × (c ≤ table.cores)) (cores qs)
  within qs law = fits_cores limit table [] table.tasks qs law.fits

  at_least_one : (qs : List Row) → Lawful accepts limit table qs → AllByRecursion (λ x. 1 ≤ x) (cores qs)
  at_least_one qs law = All-weaker (λ c. (1 ≤ c) × (c ≤ table.cores)) (λ x. 1 ≤ x) (λ x h. h.0) (cores qs) (within qs law)

  all_below : (c : ℕ) → table.cores < c → (qs : List Row) → Lawful accepts limit table qs → AllByRecursion (λ x. x < c) (cores qs)
  all_below c h qs law = All-weaker (λ c. (1 ≤ c) × (c ≤ table.cores)) (λ x. x < c) (λ x k. omega (arith, k.1)) (cores qs) (within qs law)

  long : (qs : List Row) → Lawful accepts limit table qs → length (cores qs) ≡ length table.tasks
  long qs law = cores-length qs ∙ fits_length limit table [] table.tasks qs law.fits

  -- to the next core, where no plan that begins with this one is better
  pub leads_next : (ps : List ℕ) (c : ℕ) (best : Option (List Row)) → NoneBetter accepts limit table (ps ++ c ∷ []) best → Leads accepts limit table (ps ++ c ∷ []) best → Leads accepts limit table (ps ++ suc c ∷ []) best
  leads_next ps c None beaten h = λ qs law b. elim (next_place (cores qs) ps c b) [ inl x ↦ h qs law x | inr x ↦ beaten qs law x ]
  leads_next ps c (Some p) beaten h = (h.0, before_next (cores p) ps c h.1, λ qs law b. elim (next_place (cores qs) ps c b) [ inl x ↦ h.2 qs law x | inr x ↦ beaten qs law x ])

  -- one task deeper
  pub leads_deeper : (ps : List ℕ) (best : Option (List Row)) → Leads accepts limit table ps best → Leads accepts limit table (ps ++ 1 ∷ []) best
  leads_deeper ps None h = λ qs law b. h qs law (before_deeper (cores qs) ps (at_least_one qs law) b)
  leads_deeper ps (Some p) h = (h.0, before_more (cores p) ps (1 ∷ []) h.1, λ qs law b. h.2 qs law (before_deeper (cores qs) ps (at_least_one qs law) b))

  back_before : (ps : List ℕ) (c d : ℕ) → table.cores < d → length ps + 1 < length table.tasks → (qs : List Row) → Lawful accepts limit table qs
      → Before (cores qs) (ps ++ suc c ∷ []) → Before (cores qs) ((ps ++ c ∷ []) ++ d ∷ [])
  back_before ps c d h s qs law b = elim (next_place (cores qs) ps c b) [
    | inl x ↦ before_more (cores qs) (ps ++ c ∷ []) (d ∷ []) x
    | inr x ↦ begins_below (cores qs) (ps ++ c ∷ []) d (all_below d h qs law) (omega (arith, long qs law, length-append ps (c ∷ []))) x
  ]

  back_best : (xs ps : List ℕ) (c d : ℕ) → Before xs ((ps ++ c ∷ []) ++ d ∷ []) → Before xs (ps ++ suc c ∷ [])
  back_best xs ps c d b = elim (before_split xs (ps ++ c ∷ []) (d ∷ []) b) [ inl x ↦ before_next xs ps c x | inr x ↦ begins_next xs ps c x ]

  -- back, when every core has been tried
  pub leads_back : (ps : List ℕ) (c d : ℕ) (best : Option (List Row)) → table.cores < d → length ps + 1 < length table.tasks
      → Leads accepts limit table ((ps ++ c ∷ []) ++ d ∷ []) best → Leads accepts limit table (ps ++ suc c ∷ []) best
  leads_back ps c d None h s l = λ qs law b. l qs law (back_before ps c d h s qs law b)
  leads_back ps c d (Some p) h s l = (l.0, back_best (cores p) ps c d l.1, λ qs law b. l.2 qs law (back_before ps c d h s qs law b))

  start_none : (xs : List ℕ) → AllByRecursion (λ x. 1 ≤ x) xs → Before xs (1 ∷ []) → ⊥
  start_none [] a b = b
  start_none (x ∷ xs) a (inl h) = omega (arith, a.0)
  start_none (x ∷ []) a (inr d) = d.1
  start_none (x ∷ (y ∷ ys)) a (inr d) = d.1

  -- at the start there is no plan yet
  pub leads_start : (best : Option (List Row)) → best ≡ None → Leads accepts limit table (1 ∷ []) best
  leads_start None e = λ qs law b. start_none (cores qs) (at_least_one qs law) b
  leads_start (Some p) e = let z : ◌≡◌ {A = ℕ} 0 1 = cc in absurd (omega arith)

  -- the best plan is the choice, or no plan is lawful
  abbrev pub Final : Option (List Row) → Type 0
  Final best = MatchOption best ((qs : List Row) → Lawful accepts limit table qs → ⊥) (λ p. Choice accepts limit table p)

  -- at the end, when every core of the first task has been tried
  pub leads_end : (d : ℕ) (best : Option (List Row)) → table.cores < d → 0 < length table.tasks → Leads accepts limit table (d ∷ []) best → Final best
  leads_end d None h s l = λ qs law. l qs law (begins_below (cores qs) [] d (all_below d h qs law) (omega (arith, long qs law)) tt)
  leads_end d (Some p) h s l = record { lawful = l.0; least = λ qs law. l.2 qs law (begins_below (cores qs) [] d (all_below d h qs law) (omega (arith, long qs law)) tt) }

  -- the task t on core c, after the beginning rs
  module _ (rs : List Row) (t : Task) (here : Here table.tasks rs t) (begun : Begun accepts limit table rs) (c : ℕ) where
    abbrev pub before : List Placed
    before = places table table.tasks rs

    abbrev pub lim : Option ℕ
    lim = limit (on_core c before) t.deadline

    no_cuts : (best : Option (List Row)) → ((cuts : List Bool) → Allowed lim t cuts → ⊥) → NoneBetter accepts limit table (cores rs ++ c ∷ []) best
    no_cuts best never qs law b = let a = next_allowed [] [] table.tasks rs qs t c here tt begun.greedy law.fits b in absurd (never a.0 a.1)

    module _ (cuts : List Bool) (low : 1 ≤ c) (high : c ≤ table.cores) (least : LeastCuts lim t cuts) where
      abbrev pub more : List Row
      more = rs ++ row c cuts ∷ []

      pub more_greedy : Greedy limit table [] table.tasks more
      more_greedy = greedy_push limit table [] table.tasks rs t (row c cuts) here low high begun.greedy least

      more_dom : (qs : List Row) → Lawful accepts limit table qs → Begins (cores qs) (cores rs ++ c ∷ []) → Dom table.tasks more qs
      more_dom qs law b = dom laws table [] [] table.tasks more qs tt more_greedy law.fits (subst (Begins (cores qs)) (sym (cores_push rs (row c cuts))) b)

      not_held : (best : Option (List Row)) → (accepts (on_core c before ++ (place table t (row c cuts)).entry ∷ []) → ⊥) → NoneBetter accepts limit table (cores rs ++ c ∷ []) best
      not_held best never qs law b =
          let new = place table t (row c cuts) in
          let e : on_core c (places table table.tasks more) ≡ on_core c before ++ new.entry ∷ [] =
          ap (on_core c) (places_push table table.tasks rs t (row c cuts) here) ∙ on_push c before new refl in
          let a = held_dom laws table table.tasks more qs (more_dom qs law b) law.held c (λ n. nonempty (on_core c before) new.entry (sym e ∙ n)) in
          absurd (never (subst accepts e a))

      -- the beginning with it costs no less than the best so far
      pub too_dear : (p : List Row) → cost table p ≤ cost table more → Before (cores p) (cores rs ++ c ∷ []) → NoneBetter accepts limit table (cores rs ++ c ∷ []) (Some p)
      too_dear p h earlier qs law b =
          let le = cost_le table table.tasks more qs (more_dom qs law b) in
          elim (cases_lt (cost table p) (cost table qs)) [
            | inl l ↦ inl l
            | inr g ↦ inr (omega arith, before_no_later (cores p) (cores qs) (marks table.tasks p) (marks table.tasks qs) (before_begins (cores p) (cores rs ++ c ∷ []) (cores qs) earlier b))
          ]

      -- it goes on
      pub more_begun : accepts (on_core c before ++ (place table t (row c cuts)).entry ∷ []) → Begun accepts limit table more
      more_begun a = record {
        greedy = more_greedy;
        held = subst (Held accepts) (sym (places_push table table.tasks rs t (row c cuts) here)) (held_push accepts before (place table t (row c cuts)) begun.held a);
      }

      -- it is whole, and cheaper than the best so far
      pub whole : AllByRecursion (λ t. 1 ≤ weight table t) table.tasks → Begun accepts limit table more → length more ≡ length table.tasks
          → (best : Option (List Row)) → Cheaper table (cost table more) best → Leads accepts limit table (cores rs ++ c ∷ []) best
          → Leads accepts limit table (cores rs ++ suc c ∷ []) (Some more)
      whole w begun' l best cheap h =
          (lawful, begins_next (cores more) (cores rs) c (subst (λ (x : List ℕ). Begins x (cores rs ++ c ∷ [])) (sym (cores_push rs (row c cuts))) (begins_same (cores rs ++ c ∷ []))), against best cheap h)
        where
          lawful : Lawful accepts limit table more
          lawful = record { fits = greedy_fits limit table [] table.tasks more begun'.greedy l; held = begun'.held }

          same : (qs : List Row) → Lawful accepts limit table qs → Begins (cores qs) (cores rs ++ c ∷ []) → NoLater (rank table more) (rank table qs)
          same qs law b =
              greedy_least laws table more qs w begun'.greedy law
              (begins_whole (cores qs) (cores more) (long qs law ∙ sym (long more lawful)) (subst (Begins (cores qs)) (sym (cores_push rs (row c cuts))) b))

          cheaper : (p qs : List Row) → cost table more < cost table p → NoLater (rank table p) (rank table qs) → NoLater (rank table more) (rank table qs)
          cheaper p qs lt (inl x) = inl (omega arith)
          cheaper p qs lt (inr x) = inl (omega (arith, x.0))

          against : (best : Option (List Row)) → Cheaper table (cost table more) best → Leads accepts limit table (cores rs ++ c ∷ []) best
              → (qs : List Row) → Lawful accepts limit table qs → Before (cores qs) (cores rs ++ suc c ∷ []) → NoLater (rank table more) (rank table qs)
          against None cheap h qs law b = elim (next_place (cores qs) (cores rs) c b) [ inl x ↦ absurd (h qs law x) | inr x ↦ same qs law x ]
          against (Some p) cheap h qs law b = elim (next_place (cores qs) (cores rs) c b) [ inl x ↦ cheaper p qs cheap (h.2 qs law x) | inr x ↦ same qs law x ]

    -- no cuts are allowed there, or the list with the chosen ones is not accepted
    pub unplaceable : 1 ≤ c → c ≤ table.cores → (best : Option (List Row)) → Unplaceable accepts limit table before t c → NoneBetter accepts limit table (cores rs ++ c ∷ []) best
    unplaceable low high best (inl never) = no_cuts best never
    unplaceable low high best (inr refused) = not_held refused.0 low high refused.1 best refused.2

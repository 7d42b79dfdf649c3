-- What a plan assigns that is lawful under the EDF test is schedulable. Assumes nothing.
use Rattle.std.proofs.Common.{◌≡◌, ℕ, ◌+◌, ◌<◌, ◌≤◌, Bool, true, false, cond, eqb, leb, List, [], ◌∷◌, ◌++◌, length, Some, None, Option, sym, refl, ap, ◌∙◌, subst, inl, inr, append_assoc, arith, length-append}
use Rattle.std.specs.List.{AllByRecursion}
use Rattle.std.proofs.ByRecursion.{all_kept_by, All-weaker}
use Rattle.std.proofs.lemmas.List.{append-nil, map-append}
use Rattle.std.proofs.lemmas.Bool.{cond-true, cond-false, cases_Bool, eqb-true, eqb-false, and_parts, and_from, le-leb, leb-true}
use Rattle.bounded.specs.Lists.{list_of}
use Rattle.tasks.specs.Tasks.{Task, Table, every, in_range, ordered_from, table_rules}
use Rattle.tasks.specs.Cuts.{total, load}
use Rattle.tasks.proofs.Rules.{rules_are}
use Rattle.coretests.specs.declared.entry.Entry.{Entry}
use Rattle.coretests.specs.Entries.{sound, between}
use Rattle.coretests.specs.Edf.{demand, EdfAccepts, least_slack, edf_limit}
use Rattle.coretests.specs.Meanings.{LeastSlackFrom}
use Rattle.coretests.specs.Demand.{demand_front}
use Rattle.coretests.specs.Guard.{guard_open}
use Rattle.coretests.proofs.Slacks.{least-slack_is_least}
use Rattle.coretests.specs.Soundness.{InRange, in_range_all, sound_front}
use Rattle.cuts.specs.Allowed.{Within}
use Rattle.plans.specs.declared.types.Row.{Row}
use Rattle.plans.specs.declared.types.Placed.{Placed}
use Rattle.plans.specs.Plans.{place, places, on_core, Suits, Fits, Lawful}
use Rattle.plans.proofs.OnCore.{on_push, on_other}
use Rattle.machine.specs.declared.types.Assigned.{Assigned}
use Rattle.machine.specs.Schedulable.{entry_of, entries_of, tasks_on, first_deadline, Ordered, SoundTask, RegionFits, Schedulable}
use Rattle.machine.specs.Assigning.{IsAssigned, AssignedAll, LawfulIsSchedulable}
use Rattle.machine.proofs.Sums.{all_right}
use Rattle.machine.proofs.Lengths.{times, regions-total, regions_some, regions-none_empty}

-- tasks, rows and what they assign, side by side
data Along : List Task → List Row → List Assigned → Type 0 where
  none : Along [] [] []
  more : {t : Task} {ts : List Task} {r : Row} {rs : List Row} {a : Assigned} {rest : List Assigned} → IsAssigned t r a → Along ts rs rest → Along (t ∷ ts) (r ∷ rs) (a ∷ rest)

along : (ts : List Task) (rs : List Row) (assigned : List Assigned) → AssignedAll ts rs assigned → Along ts rs assigned
along [] [] [] all = none
along [] [] (a ∷ rest) all = absurd all
along [] (r ∷ rs) rest all = absurd all
along (t ∷ ts) [] rest all = absurd all
along (t ∷ ts) (r ∷ rs) [] all = absurd all
along (t ∷ ts) (r ∷ rs) (a ∷ rest) all = more all.0 (along ts rs rest all.1)

-- an assigned task has the entry of its place
entry_is : (table : Table) (t : Task) (r : Row) (a : Assigned) → in_range t ≡ true → IsAssigned t r a → entry_of a ≡ (place table t r).entry
entry_is table t r a h is =
    let loads : total (list_of a.regions) ≡ load t r.cuts = ap total is.lengths ∙ regions-total t r.cuts h in
    λ i. record { period = is.period i; deadline = is.deadline i; load = loads i }

-- the entries of a core are those of the core's assigned tasks
entries_if : (b : Bool) (a : Assigned) (l : List Assigned) (e : Entry) (es : List Entry) → entry_of a ≡ e → entries_of l ≡ es → entries_of (cond b (a ∷ l) l) ≡ cond b (e ∷ es) es
entries_if true a l e es p q = λ i. p i ∷ q i
entries_if false a l e es p q = q

entries_are : (table : Table) (c : ℕ) {ts : List Task} {rs : List Row} {assigned : List Assigned} → every in_range ts ≡ true → Along ts rs assigned → entries_of (tasks_on c assigned) ≡ on_core c (places table ts rs)
entries_are table c h none = refl
entries_are table c h (more {t} {ts} {r} {rs} {a} {rest} is all) =
    let hs = and_parts (in_range t) (every in_range ts) h in
    let es : List Entry = on_core c (places table ts rs) in
    entries_if (eqb a.core c) a (tasks_on c rest) (place table t r).entry es (entry_is table t r a hs.0 is) (entries_are table c hs.1 all)
    ∙ ap (λ n. cond (eqb n c) ((place table t r).entry ∷ es) es) is.core

-- each assigned task is sound
sound-task : (limit : List Entry → ℕ → Option ℕ) (table : Table) (before : List Placed) (t : Task) (r : Row) (a : Assigned) → in_range t ≡ true → IsAssigned t r a → Suits limit table before t r → SoundTask table.cores a
sound-task limit table before t r a h is s =
    let ts = times t h in
    record {
      low = omega (arith, is.core, s.low);
      high = omega (arith, is.core, s.high);
      some_time = omega (arith, is.deadline, ts.low);
      in_period = omega (arith, is.deadline, is.period, ts.high);
      some_region = subst (λ (ns : List ℕ). 0 < length ns) (sym is.lengths) (regions_some t r.cuts h);
      none_empty = subst (AllByRecursion (λ n. 1 ≤ n)) (sym is.lengths) (regions-none_empty t r.cuts h);
    }

sound_all : (limit : List Entry → ℕ → Option ℕ) (table : Table) (before : List Placed) {ts : List Task} {rs : List Row} {assigned : List Assigned} → every in_range ts ≡ true → Along ts rs assigned → Fits limit table before ts rs → AllByRecursion (SoundTask table.cores) assigned
sound_all limit table before h none f = tt
sound_all limit table before h (more {t} {ts} {r} {rs} {a} is all) f =
    let hs = and_parts (in_range t) (every in_range ts) h in
    (sound-task limit table before t r a hs.0 is f.0, sound_all limit table (before ++ place table t r ∷ []) hs.1 all f.1)

-- the tasks are in order of deadline, and so are those of a core
ordered_all : (d : ℕ) {ts : List Task} {rs : List Row} {assigned : List Assigned} → ordered_from d ts ≡ true → Along ts rs assigned → AllByRecursion (λ a. d ≤ a.deadline) assigned × Ordered assigned
ordered_all d h none = (tt, tt)
ordered_all d h (more {t} {ts} {r} {rs} {a} {rest} is all) =
    let hs = and_parts (leb d t.deadline) (ordered_from t.deadline ts) h in
    let low : d ≤ t.deadline = leb-true d t.deadline hs.0 in
    let ih = ordered_all t.deadline hs.1 all in (
      (omega (arith, is.deadline), All-weaker (λ u. t.deadline ≤ u.deadline) (λ u. d ≤ u.deadline) (λ u l. omega arith) rest ih.0),
      (All-weaker (λ u. t.deadline ≤ u.deadline) (λ u. a.deadline ≤ u.deadline) (λ u l. omega (arith, is.deadline)) rest ih.0, ih.1),
    )

ordered_if : (b : Bool) (a : Assigned) (l : List Assigned) → AllByRecursion (λ u. a.deadline ≤ u.deadline) l → Ordered l → Ordered (cond b (a ∷ l) l)
ordered_if true a l low o = (low, o)
ordered_if false a l low o = o

ordered-on : (c : ℕ) (l : List Assigned) → Ordered l → Ordered (tasks_on c l)
ordered-on c [] o = tt
ordered-on c (a ∷ l) o = ordered_if (eqb a.core c) a (tasks_on c l) (all_kept_by (λ u. eqb u.core c) (λ u. a.deadline ≤ u.deadline) l o.0) (ordered-on c l o.1)

-- the limit of each region, at each place of a core
module _ (limit : List Entry → ℕ → Option ℕ) (table : Table) (c : ℕ) where
  -- no region of the task is longer than the limit behind these entries
  abbrev Limited : List Entry → Assigned → Type 0
  Limited xs i = AllByRecursion (Within (limit xs i.deadline)) (list_of i.regions)

  head_limited : (done : List Placed) (t : Task) (r : Row) (a : Assigned) (rest : List Assigned) (i : Assigned) (after : List Assigned) → in_range t ≡ true → IsAssigned t r a → a.core ≡ c → Suits limit table done t r
      → ((before : List Assigned) → rest ≡ before ++ i ∷ after → Limited (on_core c (done ++ place table t r ∷ []) ++ entries_of before) i)
      → (before : List Assigned) → a ∷ rest ≡ before ++ i ∷ after → Limited (on_core c done ++ entries_of before) i
  head_limited done t r a rest i after h is on s later [] e =
      let same : a ≡ i = cc in
      let entries : on_core r.core done ≡ on_core c done ++ [] = ap (λ n. on_core n done) (sym is.core ∙ on) ∙ sym (append-nil (on_core c done)) in
      subst (Limited (on_core c done ++ [])) same
      (subst (λ (xs : List Entry). Limited xs a) entries
      (subst (λ (d : ℕ). AllByRecursion (Within (limit (on_core r.core done) d)) (list_of a.regions)) (sym is.deadline)
      (subst (AllByRecursion (Within (limit (on_core r.core done) t.deadline))) (sym is.lengths) s.allowed.short)))
  head_limited done t r a rest i after h is on s later (b ∷ before) e =
      let same : b ≡ a = cc in
      let rests : rest ≡ before ++ i ∷ after = cc in
      let entries : on_core c (done ++ place table t r ∷ []) ++ entries_of before ≡ on_core c done ++ entry_of b ∷ entries_of before =
      ap (λ l. l ++ entries_of before) (on_push c done (place table t r) (sym is.core ∙ on))
      ∙ append_assoc (on_core c done) ((place table t r).entry ∷ []) (entries_of before)
      ∙ ap (λ e. on_core c done ++ e ∷ entries_of before) (sym (ap entry_of same ∙ entry_is table t r a h is)) in
      subst (λ (xs : List Entry). Limited xs i) entries (later before rests)

  limited : (done : List Placed) {ts : List Task} {rs : List Row} {assigned : List Assigned} → every in_range ts ≡ true → Along ts rs assigned → Fits limit table done ts rs
      → (i : Assigned) (after before : List Assigned) → tasks_on c assigned ≡ before ++ i ∷ after → Limited (on_core c done ++ entries_of before) i
  limited done h none f i after before e = absurd (omega (arith, ap length e, length-append before (i ∷ after)))
  limited done h (more {t} {ts} {r} {rs} {a} {rest} is all) f i after before e =
      let hs = and_parts (in_range t) (every in_range ts) h in
      let next = done ++ place table t r ∷ [] in
      let later = limited next hs.1 all f.1 i after in
      elim (cases_Bool (eqb a.core c)) [
        | inl y ↦ head_limited done t r a (tasks_on c rest) i after hs.0 is (eqb-true a.core c y) f.0 later before (sym (cond-true (eqb a.core c) (a ∷ tasks_on c rest) (tasks_on c rest) y) ∙ e)
        | inr n ↦ subst (λ (xs : List Entry). Limited (xs ++ entries_of before) i) (on_other c done (place table t r) (λ q. eqb-false a.core c n (is.core ∙ q))) (later before (sym (cond-false (eqb a.core c) (a ∷ tasks_on c rest) (tasks_on c rest) n) ∙ e))
      ]

demand-none : (t : ℕ) → demand [] t ≡ 0
unfolding demand
demand-none t = refl

-- a region within the limit of EDF fits at every moment
region_fits_lem : (before : List Assigned) (i : Assigned) (after : List Assigned) → EdfAccepts (entries_of before ++ entry_of i ∷ entries_of after) → (n : ℕ) → Within (edf_limit (entries_of before) i.deadline) n → RegionFits (first_deadline (before ++ i ∷ after)) before i.deadline n
region_fits_lem [] i after accepted n within t low high = omega arith
region_fits_lem (b ∷ before) i after accepted n within t low high =
    let d : ℕ = i.deadline in
    let xs : List Entry = entries_of (b ∷ before) in
    let ys : List Entry = entry_of i ∷ entries_of after in
    let ranges : AllByRecursion InRange (xs ++ ys) = in_range_all (xs ++ ys) accepted.0 in
    let own : InRange (entry_of i) = (all_right InRange xs ys ranges).0 in
    let asked : between 1 1000000 d ≡ true = and_from (leb 1 d) (leb d 1000000) (le-leb 1 d own.deadline_low) (le-leb d 1000000 (omega (arith, own.deadline_high, own.period_high))) in
    let opened : edf_limit xs d ≡ least_slack xs d = guard_open xs d (least_slack xs d) (and_from (sound xs) (between 1 1000000 d) (sound_front xs ys accepted.0) asked) in
    let met : demand xs t ≤ t = omega (arith, accepted.1 t (omega (arith, ranges.0.deadline_low)), demand_front xs ys t) in
    go met (least_slack xs d) (least-slack_is_least (entry_of b) (entries_of before) d) (subst (λ (o : Option ℕ). Within o n) opened within)
  where
    go : demand (entries_of (b ∷ before)) t ≤ t → (o : Option ℕ) → LeastSlackFrom b.deadline (entries_of (b ∷ before)) i.deadline o → Within o n → n + demand (entries_of (b ∷ before)) t ≤ t + 1
    go met None h w = omega arith
    go met (Some m) h w = omega (arith, h.1 t low high)

module _ (table : Table) (rows : List Row) (tasks : List Assigned) (rules : table_rules table ≡ true) (plan : Lawful EdfAccepts edf_limit table rows) (all : Along table.tasks rows tasks) where
  entries : (c : ℕ) → entries_of (tasks_on c tasks) ≡ on_core c (places table table.tasks rows)
  entries c = entries_are table c (rules_are table rules).ranges all

  -- the list of a core with a task is accepted
  accepted : (c : ℕ) (before : List Assigned) (i : Assigned) (after : List Assigned) → tasks_on c tasks ≡ before ++ i ∷ after → EdfAccepts (entries_of before ++ entry_of i ∷ entries_of after)
  accepted c before i after e =
      let split : on_core c (places table table.tasks rows) ≡ entries_of before ++ entry_of i ∷ entries_of after = sym (entries c) ∙ ap entries_of e ∙ map-append entry_of before (i ∷ after) in
      subst EdfAccepts split (plan.held c (λ empty. omega (arith, ap length (sym split ∙ empty), length-append (entries_of before) (entry_of i ∷ entries_of after))))

  demand_fits_lem : (c t : ℕ) → 1 ≤ t → demand (entries_of (tasks_on c tasks)) t ≤ t
  demand_fits_lem c t h = go (tasks_on c tasks) refl
    where
      go : (l : List Assigned) → tasks_on c tasks ≡ l → demand (entries_of (tasks_on c tasks)) t ≤ t
      go [] e = subst (λ (x : List Assigned). demand (entries_of x) t ≤ t) (sym e) (omega (arith, demand-none t))
      go (i ∷ l) e = subst (λ (x : List Assigned). demand (entries_of x) t ≤ t) (sym e) ((accepted c [] i l e).1 t h)

  plan_schedulable : Schedulable table.cores tasks
  plan_schedulable = record {
    sound = sound_all edf_limit table [] (rules_are table rules).ranges all plan.fits;
    ordered = λ c. ordered-on c tasks (ordered_all 0 (rules_are table rules).order all).1;
    demand_fits = demand_fits_lem;
    region_fits = λ c before i after e.
        All-weaker (Within (edf_limit (entries_of before) i.deadline)) (RegionFits (first_deadline (tasks_on c tasks)) before i.deadline)
        (λ n w. subst (λ (l : List Assigned). RegionFits (first_deadline l) before i.deadline n) (sym e) (region_fits_lem before i after (accepted c before i after e) n w))
        (list_of i.regions) (limited edf_limit table c [] (rules_are table rules).ranges all plan.fits i after before e);
  }

pub lawful_is_schedulable_lem : LawfulIsSchedulable
lawful_is_schedulable_lem table rows tasks rules plan all = plan_schedulable table rows tasks rules plan (along table.tasks rows tasks all)

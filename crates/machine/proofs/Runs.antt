-- Calls one after another: what each state keeps, and how states and replies of longer lists go on. Assumes nothing.
use Rattle.std.proofs.Common.{◌≡◌, ℕ, zero, suc, ◌+◌, ◌<◌, ◌≤◌, not, eqb, leb, List, [], ◌∷◌, ◌++◌, length, get_or, take, Some, None, Option, sym, refl, ap, ◌∙◌, subst, arith}
use native.Mathlib.Bridge.{le_prop}
use Rattle.std.proofs.lemmas.List.FromFn.{length-map-range_with_len}
use Rattle.std.proofs.lemmas.List.{take_more}
use Rattle.std.proofs.lemmas.Bool.{leb-false, eqb-true, not-false}
use Rattle.tasks.specs.declared.refusal.Refusal.{Refusal}
use Rattle.tasks.specs.declared.refusal.Refusal.TheVariants.{ClockEnded, WrongRowLength}
use Rattle.machine.specs.declared.types.Assigned.{Assigned}
use Rattle.machine.specs.declared.types.Slot.{Slot}
use Rattle.machine.specs.declared.types.Event.TheVariants as events
use Rattle.machine.specs.declared.types.Call.{Call}
use Rattle.machine.specs.declared.types.Call.TheVariants.{Release, Early, Tick}
use Rattle.machine.specs.Slots.{after_event, released, ended_on, enter_on, enter_all, place_on, change_at}
use Rattle.machine.specs.Schedulable.{Schedulable}
use Rattle.machine.specs.Machine.{State, Reply, granted, ran, clock_end, slot_at, change_place, release_refusal, early_refusal, tick_refusal, released_state, ended_state, ticked_state, tick_row, settle, step, finally, answers, start}
use Rattle.machine.specs.Watch.{Unfinished, watch, opening, Timely}
use Rattle.machine.specs.Law.{Places, OnTime, NeverLate}
use Rattle.machine.proofs.Sums.{change_map, map-map}
use Rattle.machine.proofs.Weight.{tasks_in}
use Rattle.machine.proofs.Enter.{Chosen, Entered, stays, begins, entered}
use Rattle.machine.proofs.Calls.{unreleased_tasks}
use Rattle.machine.proofs.Steps.{unrefused}

-- what holds of the state and of the state after a granted call holds after the call
settled : (P : State → Type 0) (st : State) (o : Option Refusal) (new : State) (reply : Reply) → P st → P new → P (settle st o new reply).0
settled P st None new reply h k = k
settled P st (Some refusal) new reply h k = h

pub step-cores : (st : State) (c : Call) → (step st c).0.cores ≡ st.cores
step-cores st (Release p) = settled (λ x. x.cores ≡ st.cores) st (release_refusal st.clock p (slot_at p st.slots)) (released_state st p) granted refl refl
step-cores st (Early c) = settled (λ x. x.cores ≡ st.cores) st (early_refusal st c) (ended_state st c) granted refl refl
step-cores st (Tick width) = settled (λ x. x.cores ≡ st.cores) st (tick_refusal st width) (ticked_state st) (ran (tick_row st)) refl refl

-- a tick that is not refused
pub tick_open : (st : State) (width : ℕ) → tick_refusal st width ≡ None → (st.clock < clock_end) × (width ≡ st.cores)
tick_open st width e =
    let h = unrefused (leb clock_end st.clock) (not (eqb width st.cores)) ClockEnded WrongRowLength e in
    (leb-false clock_end st.clock h.0, eqb-true width st.cores (not-false (eqb width st.cores) h.1))

-- no call takes the clock past its end
pub step_clock : (st : State) (c : Call) → st.clock ≤ clock_end → (step st c).0.clock ≤ clock_end
step_clock st (Release p) h = settled (λ x. x.clock ≤ clock_end) st (release_refusal st.clock p (slot_at p st.slots)) (released_state st p) granted h h
step_clock st (Early c) h = settled (λ x. x.clock ≤ clock_end) st (early_refusal st c) (ended_state st c) granted h h
step_clock st (Tick width) h = go (tick_refusal st width) refl
  where
    go : (o : Option Refusal) → tick_refusal st width ≡ o → (settle st o (ticked_state st) (ran (tick_row st))).0.clock ≤ clock_end
    go None e = omega (arith, (tick_open st width e).0)
    go (Some refusal) e = h

-- a row that is granted is as long as the one that was lent
pub row_long : (st : State) (width : ℕ) (row : List ℕ) → ran row ≡ (step st (Tick width)).1 → length row ≡ width
row_long st width row e = go (tick_refusal st width) refl e
  where
    go : (o : Option Refusal) → tick_refusal st width ≡ o → ran row ≡ (settle st o (ticked_state st) (ran (tick_row st))).1 → length row ≡ width
    go None f q =
        let same : row ≡ tick_row st = cc in
        ap length same ∙ length-map-range_with_len (λ c. place_on c 1 (enter_all st.cores st.slots)) 1 st.cores ∙ sym (tick_open st width f).1
    go (Some refusal) f q = absurd cc

-- the tasks stay
change_at_tasks : (f : Slot → Slot) → ((s : Slot) → (f s).task ≡ s.task) → (i : ℕ) (ss : List Slot) → tasks_in (change_at i f ss) ≡ tasks_in ss
change_at_tasks f e i [] = refl
change_at_tasks f e zero (s ∷ ss) = ap (λ (t : Assigned). t ∷ tasks_in ss) (e s)
change_at_tasks f e (suc i) (s ∷ ss) = ap (λ (l : List Assigned). s.task ∷ l) (change_at_tasks f e i ss)

change_place_tasks : (f : Slot → Slot) → ((s : Slot) → (f s).task ≡ s.task) → (p : ℕ) (ss : List Slot) → tasks_in (change_place p f ss) ≡ tasks_in ss
change_place_tasks f e zero ss = refl
change_place_tasks f e (suc i) ss = change_at_tasks f e i ss

entered_tasks : (c : ℕ) (xs ys : List Slot) → Entered c xs ys → tasks_in ys ≡ tasks_in xs
entered_tasks c xs ys (stays h) = refl
entered_tasks c xs ys (begins m z low ch) = change_map (λ s. s.task) (after_event events.Enter) (λ s. refl) (Chosen c m) ch

enter_all_tasks : (n : ℕ) (ss : List Slot) → tasks_in (enter_all n ss) ≡ tasks_in ss
enter_all_tasks zero ss = refl
enter_all_tasks (suc n) ss = entered_tasks (suc n) (enter_all n ss) (enter_on (suc n) (enter_all n ss)) (entered (suc n) (enter_all n ss)) ∙ enter_all_tasks n ss

pub step_tasks : (st : State) (c : Call) → tasks_in (step st c).0.slots ≡ tasks_in st.slots
step_tasks st (Release p) = settled (λ x. tasks_in x.slots ≡ tasks_in st.slots) st (release_refusal st.clock p (slot_at p st.slots)) (released_state st p) granted refl (change_place_tasks (released st.clock) (λ s. refl) p st.slots)
step_tasks st (Early c) = settled (λ x. tasks_in x.slots ≡ tasks_in st.slots) st (early_refusal st c) (ended_state st c) granted refl (map-map (λ s. s.task) (ended_on c) (λ s. refl) st.slots)
step_tasks st (Tick width) = settled (λ x. tasks_in x.slots ≡ tasks_in st.slots) st (tick_refusal st width) (ticked_state st) (ran (tick_row st)) refl (map-map (λ s. s.task) (after_event events.Tick) (λ s. refl) (enter_all st.cores st.slots) ∙ enter_all_tasks st.cores st.slots)

pub finally_tasks : (cs : List Call) (st : State) → tasks_in (finally st cs).slots ≡ tasks_in st.slots
finally_tasks [] st = refl
finally_tasks (c ∷ cs) st = finally_tasks cs (step st c).0 ∙ step_tasks st c

pub finally-cores : (cs : List Call) (st : State) → (finally st cs).cores ≡ st.cores
finally-cores [] st = refl
finally-cores (c ∷ cs) st = finally-cores cs (step st c).0 ∙ step-cores st c

-- so two starts that come to the same state have the same tasks and cores
pub same_start : (cores clock more-cores more-clock : ℕ) (tasks more-tasks : List Assigned) (past more-past : List Call) → finally (start cores clock tasks) past ≡ finally (start more-cores more-clock more-tasks) more-past → (cores ≡ more-cores) × (tasks ≡ more-tasks)
same_start cores clock more-cores more-clock tasks more-tasks past more-past e = (
  sym (finally-cores past (start cores clock tasks)) ∙ ap (λ (x : State). x.cores) e ∙ finally-cores more-past (start more-cores more-clock more-tasks),
  sym (finally_tasks past (start cores clock tasks) ∙ unreleased_tasks tasks) ∙ ap (λ (x : State). tasks_in x.slots) e ∙ (finally_tasks more-past (start more-cores more-clock more-tasks) ∙ unreleased_tasks more-tasks),
)

pub same_schedulable : (cores clock more-cores more-clock : ℕ) (tasks more-tasks : List Assigned) (past more-past : List Call) → finally (start cores clock tasks) past ≡ finally (start more-cores more-clock more-tasks) more-past → Schedulable cores tasks → Schedulable more-cores more-tasks
same_schedulable cores clock more-cores more-clock tasks more-tasks past more-past e fit =
    let same = same_start cores clock more-cores more-clock tasks more-tasks past more-past e in
    subst (λ (l : List Assigned). Schedulable more-cores l) same.1 (subst (λ (n : ℕ). Schedulable n tasks) same.0 fit)

-- longer lists of calls
pub finally-append : (xs ys : List Call) (st : State) → finally st (xs ++ ys) ≡ finally (finally st xs) ys
finally-append [] ys st = refl
finally-append (c ∷ xs) ys st = finally-append xs ys (step st c).0

pub answers-append : (xs ys : List Call) (st : State) → answers st (xs ++ ys) ≡ answers st xs ++ answers (finally st xs) ys
answers-append [] ys st = refl
answers-append (c ∷ xs) ys st = ap (λ (l : List Reply). (step st c).1 ∷ l) (answers-append xs ys (step st c).0)

pub answers-take : (n : ℕ) (cs : List Call) (st : State) → answers st (take n cs) ≡ take n (answers st cs)
answers-take zero cs st = refl
answers-take (suc n) [] st = refl
answers-take (suc n) (c ∷ cs) st = ap (λ (l : List Reply). (step st c).1 ∷ l) (answers-take n cs (step st c).0)

-- a loop over the calls
module _ (st : State) (calls : List Call) (i : ℕ) (d : Call) (h : i < length calls) (now : State) (inv : now ≡ finally st (take i calls)) where
  pub finally-more : (next : State) → next ≡ (step now (get_or calls i d)).0 → next ≡ finally st (take (i + 1) calls)
  finally-more next s = s ∙ ap (λ (x : State). (step x (get_or calls i d)).0) inv ∙ sym (finally-append (take i calls) (get_or calls i d ∷ []) st) ∙ ap (finally st) (sym (take_more calls i d h))

  pub answers-more : (replies : List Reply) (reply : Reply) → replies ≡ answers st (take i calls) → reply ≡ (step now (get_or calls i d)).1 → replies ++ reply ∷ [] ≡ answers st (take (i + 1) calls)
  answers-more replies reply so r =
      ap (λ (l : List Reply). l ++ reply ∷ []) so ∙ ap (λ (a : Reply). answers st (take i calls) ++ a ∷ []) (r ∙ ap (λ (x : State). (step x (get_or calls i d)).1) inv)
      ∙ sym (answers-append (take i calls) (get_or calls i d ∷ []) st) ∙ ap (answers st) (sym (take_more calls i d h))

-- that no job is late is a proposition
timely_prop : (n : ℕ) (v : List Unfinished) → IsProp (Timely n v)
timely_prop n [] x y = refl
timely_prop n (u ∷ us) x y = λ i. (le_prop x.0 y.0 i, timely_prop n us x.1 y.1 i)

places_prop : (Q : ℕ → Assigned → Type 0) → ((p : ℕ) (t : Assigned) → IsProp (Q p t)) → (p : ℕ) (ts : List Assigned) → IsProp (Places Q p ts)
places_prop Q h p [] x y = refl
places_prop Q h p (t ∷ ts) x y = λ i. (h p t x.0 y.0 i, places_prop Q h (suc p) ts x.1 y.1 i)

pub never_late_prop : (clock : ℕ) (tasks : List Assigned) (calls : List Call) (replies : List Reply) → IsProp (NeverLate clock tasks calls replies)
never_late_prop clock tasks calls replies = places_prop (λ p t. OnTime (watch t p (opening clock) calls replies)) (λ p t. timely_prop (watch t p (opening clock) calls replies).clock (watch t p (opening clock) calls replies).view) 1 tasks

-- The outside reading agrees with the records after any calls, and so no unfinished job reaches its deadline. Assumes nothing.
use Rattle.std.proofs.Common.{◌≡◌, ℕ, zero, suc, ◌+◌, ◌-◌, min, true, false, not, ◌&&◌, eqb, List, [], ◌∷◌, ◌++◌, get_or, Some, None, Option, sym, refl, ap, ◌∙◌, subst, arith}
use Rattle.std.proofs.lemmas.Bool.{cond-true, cond-false, eq-eqb, ne_eqb, not-false, both_ways}
use Rattle.tasks.specs.Tasks.{between}
use Rattle.tasks.specs.declared.refusal.Refusal.{Refusal}
use Rattle.tasks.specs.declared.refusal.Refusal.TheVariants.{NoSuchCore, NothingUnderWay}
use Rattle.machine.specs.declared.types.Assigned.{Assigned}
use Rattle.machine.specs.declared.types.Slot.{Slot}
use Rattle.machine.specs.declared.types.Event.TheVariants as events
use Rattle.machine.specs.declared.types.Call.{Call}
use Rattle.machine.specs.declared.types.Call.TheVariants.{Release, Early, Tick}
use Rattle.machine.specs.Slots.{step_job, is_idle, is_inside, runs_on, busy, after_event, released, ended_on, enter_on, enter_all, place_on, unreleased}
use Rattle.machine.specs.Schedulable.{Schedulable}
use Rattle.machine.specs.Machine.{State, Reply, granted, ran, clock_end, slot_at, release_refusal, early_refusal, tick_refusal, released_state, ended_state, ticked_state, tick_row, settle, step, finally, answers, start}
use Rattle.machine.specs.Watch.{Unfinished, unfinished, Watch, in_row, seen, watch, opening, Timely}
use Rattle.machine.specs.Law.{Places, OnTime, MachineNeverLate, SameClock}
use Rattle.machine.specs.Agreement.{Agree, ReadingAgrees}
use Rattle.machine.proofs.Weight.{Fine}
use Rattle.machine.proofs.Enter.{Chosen, Entered, stays, begins, entered}
use Rattle.machine.proofs.Tick.{Invariant, weaker, enter_all_inv, tick_keeps}
use Rattle.machine.proofs.Calls.{InTime, early_keeps, start_holds, in_time_lem}
use Rattle.machine.proofs.Steps.{unrefused, Releasable, releasable, release_invariant}
use Rattle.machine.proofs.Places.{places_both, all_places, places_any, places_change, places_nth, places-map, places_at}
use Rattle.machine.proofs.Row.{Standing, standing, in_row_is, Shown, column_is, shown_place}
use Rattle.machine.proofs.Readings.{release_agrees, release_out, early_agrees, early_out, enter_agrees, tick_agrees, tick_out, timely}

-- the record of a place agrees with its reading
abbrev Read : (ℕ → Assigned → Watch) → ℕ → Slot → Type 0
Read W p s = Agree s.task s.job s.due (W p s.task).view

-- The state and the reading W of each place and task go together: the clocks are the same, the last row still shows
-- the regions that are under way, and each record agrees with the reading of its place.
pub record Sim (tasks : List Assigned) (st : State) (W : ℕ → Assigned → Watch) : Type 0 where
  pub schedulable : Schedulable st.cores tasks
  pub invariant : Invariant st.cores 1 st.clock tasks st.slots
  pub row : List ℕ
  pub rows : (p : ℕ) (t : Assigned) → (W p t).row ≡ row
  pub clocks : (p : ℕ) (t : Assigned) → (W p t).clock ≡ st.clock
  pub agree : Places (Read W) 1 st.slots
  pub shown : Places (Shown row) 1 st.slots

-- what entering keeps of each record
enters : (P : ℕ → Slot → Type 0) → ((q : ℕ) (s : Slot) → P q s → P q (after_event events.Enter s)) → (n : ℕ) (ss : List Slot) → Places P 1 ss → Places P 1 (enter_all n ss)
enters P e zero ss a = a
enters P e (suc n) ss a = go (suc n) (enter_all n ss) (enter_on (suc n) (enter_all n ss)) (entered (suc n) (enter_all n ss)) (enters P e n ss a)
  where
    go : (c : ℕ) (xs ys : List Slot) → Entered c xs ys → Places P 1 xs → Places P 1 ys
    go c xs ys (stays h) b = b
    go c xs ys (begins m z low ch) b = places_change P (Chosen c m) (after_event events.Enter) e 1 b ch

module _ (tasks : List Assigned) (st : State) (W : ℕ → Assigned → Watch) (s : Sim tasks st W) where
  -- the reading of each place after one more call
  abbrev Next : Call → Reply → ℕ → Assigned → Watch
  Next call reply = λ q t. seen t q (W q t) call reply

  release_sim : (p : ℕ) → Releasable st.clock (slot_at p st.slots) → Sim tasks (released_state st p) (Next (Release p) granted)
  release_sim zero r = let e : ◌≡◌ {A = Option Slot} None (Some r.slot) = r.there_is in absurd cc
  release_sim (suc i) r = record {
    schedulable = s.schedulable;
    invariant = release_invariant st.cores st.clock tasks st.slots (suc i) s.schedulable s.invariant r;
    row = s.row;
    rows = s.rows;
    clocks = s.clocks;
    agree = places_at (λ q x. Read W q x × (q ≡ 1 + i → is_idle x.job ≡ true)) (Read (Next (Release (suc i)) granted)) (released st.clock) i 1 here_agrees other_agrees st.slots
        (places_both (Read W) (λ q x. q ≡ 1 + i → is_idle x.job ≡ true) 1 st.slots s.agree (places_nth (λ x. is_idle x.job ≡ true) i 1 st.slots r.slot r.there_is r.accepted.0));
    shown = places_at (Shown s.row) (Shown s.row) (released st.clock) i 1 (λ q x h g e. g (release_out x.task x.job e)) (λ q x n g. g) st.slots s.shown;
  }
    where
      here_agrees : (q : ℕ) (x : Slot) → q ≡ 1 + i → Read W q x × (q ≡ 1 + i → is_idle x.job ≡ true) → Read (Next (Release (suc i)) granted) q (released st.clock x)
      here_agrees q x h g =
          let new : ℕ = st.clock + x.task.deadline in
          let v : List Unfinished = (W q x.task).view in
          let e = cond-true (eqb (suc i) q) (v ++ unfinished 0 0 ((W q x.task).clock + x.task.deadline) ∷ []) v (eq-eqb (suc i) q (omega arith)) ∙ ap (λ (n : ℕ). v ++ unfinished 0 0 (n + x.task.deadline) ∷ []) (s.clocks q x.task) in
          subst (λ (y : List Unfinished). Agree x.task (step_job x.task x.job events.Release) new y) (sym e) (release_agrees x.task x.job x.due new v (g.1 h) g.0)

      other_agrees : (q : ℕ) (x : Slot) → (q ≡ 1 + i → ⊥) → Read W q x × (q ≡ 1 + i → is_idle x.job ≡ true) → Read (Next (Release (suc i)) granted) q x
      other_agrees q x n g =
          let v : List Unfinished = (W q x.task).view in
          let e = cond-false (eqb (suc i) q) (v ++ unfinished 0 0 ((W q x.task).clock + x.task.deadline) ∷ []) v (ne_eqb (suc i) q (λ e. n (omega arith))) in
          subst (λ (y : List Unfinished). Agree x.task x.job x.due y) (sym e) g.0

  early_sim : (c : ℕ) → busy c st.slots ≡ true → Sim tasks (ended_state st c) (Next (Early c) granted)
  early_sim c b =
      let column : get_or s.row (c - 1) 0 ≡ place_on c 1 st.slots = shown_place s.row c 1 st.slots b s.shown in
      record {
        schedulable = s.schedulable;
        invariant = early_keeps st.cores st.clock tasks st.slots c s.invariant;
        row = s.row;
        rows = s.rows;
        clocks = s.clocks;
        agree = places-map (λ q x. Read W q x × Standing st.slots q x) (Read (Next (Early c) granted)) (ended_on c)
            (λ q x h. early_agrees (runs_on c x) (eqb (get_or (W q x.task).row (c - 1) 0) q) x.task x.job x.due (W q x.task).view
            (λ o. ap (λ r. eqb (get_or r (c - 1) 0) q) (s.rows q x.task) ∙ ap (λ n. eqb n q) column ∙ h.1 c ∙ ap (λ t. t && is_inside x.job) o) h.0)
            1 st.slots (places_both (Read W) (Standing st.slots) 1 st.slots s.agree (standing st.slots s.invariant.one));
        shown = places-map (Shown s.row) (Shown s.row) (ended_on c) (λ q x h e. h (early_out (runs_on c x) x.task x.job e)) 1 st.slots s.shown;
      }

  -- the records once each core has had its choice
  abbrev chosen : List Slot
  chosen = enter_all st.cores st.slots

  abbrev Known : ℕ → Slot → Type 0
  Known q x = Fine st.cores 0 st.clock x × Standing chosen q x

  known : Places Known 1 chosen
  known =
      let held : Invariant st.cores 0 st.clock tasks chosen = (enter_all_inv st.cores st.clock tasks st.slots (weaker st.cores st.clock tasks st.slots s.invariant) st.cores).0 in
      places_both (λ q x. Fine st.cores 0 st.clock x) (Standing chosen) 1 chosen (all_places (Fine st.cores 0 st.clock) 1 chosen held.fine) (standing chosen held.one)

  tick_sim : (width : ℕ) → Sim tasks (ticked_state st) (Next (Tick width) (ran (tick_row st)))
  tick_sim width = record {
    schedulable = s.schedulable;
    invariant = tick_keeps st.cores st.clock tasks st.slots s.invariant;
    row = tick_row st;
    rows = λ q t. refl;
    clocks = λ q t. ap suc (s.clocks q t);
    agree = places-map (λ q x. Read W q x × Known q x) (Read (Next (Tick width) (ran (tick_row st)))) (after_event events.Tick)
        (λ q x h. tick_agrees st.clock x.task x.job x.due (W q x.task).view (in_row q (tick_row st)) (in_row_is st.cores q x chosen h.1.0.sound.low h.1.0.sound.high h.1.1) h.1.0.well h.0)
        1 chosen (places_both (Read W) Known 1 chosen (enters (Read W) (λ q x a. enter_agrees x.task x.job x.due (W q x.task).view a) st.cores st.slots s.agree) known);
    shown = places-map Known (Shown (tick_row st)) (after_event events.Tick)
        (λ q x h e. column_is st.cores q x chosen h.0.sound.low h.0.sound.high h.1 (tick_out x.task x.job e))
        1 chosen known;
  }

  -- a call that is refused leaves all as it is
  release_settled : (p : ℕ) (o : Option Refusal) → release_refusal st.clock p (slot_at p st.slots) ≡ o → Sim tasks (settle st o (released_state st p) granted).0 (Next (Release p) (settle st o (released_state st p) granted).1)
  release_settled p None e = release_sim p (releasable st.clock p (slot_at p st.slots) e)
  release_settled p (Some refusal) e = s

  early_settled : (c : ℕ) (o : Option Refusal) → early_refusal st c ≡ o → Sim tasks (settle st o (ended_state st c) granted).0 (Next (Early c) (settle st o (ended_state st c) granted).1)
  early_settled c None e = early_sim c (not-false (busy c st.slots) (unrefused (not (between 1 st.cores c)) (not (busy c st.slots)) (NoSuchCore c) (NothingUnderWay c) e).1)
  early_settled c (Some refusal) e = s

  tick_settled : (width : ℕ) (o : Option Refusal) → Sim tasks (settle st o (ticked_state st) (ran (tick_row st))).0 (Next (Tick width) (settle st o (ticked_state st) (ran (tick_row st))).1)
  tick_settled width None = tick_sim width
  tick_settled width (Some refusal) = s

  pub step_sim : (c : Call) → Sim tasks (step st c).0 (Next c (step st c).1)
  step_sim (Release p) = release_settled p (release_refusal st.clock p (slot_at p st.slots)) refl
  step_sim (Early c) = early_settled c (early_refusal st c) refl
  step_sim (Tick width) = tick_settled width (tick_refusal st width)

  pub on_time : Places (λ q t. OnTime (W q t)) 1 tasks
  on_time =
      let in_times = all_places (λ x. InTime st.clock x.job x.due) 1 st.slots (in_time_lem st.cores st.clock tasks st.slots s.invariant) in
      subst (Places (λ q t. OnTime (W q t)) 1) s.invariant.same
      (places-map (λ q x. Read W q x × InTime st.clock x.job x.due) (λ q t. OnTime (W q t)) (λ x. x.task)
      (λ q x h. subst (λ (n : ℕ). Timely n (W q x.task).view) (sym (s.clocks q x.task)) (timely st.clock x.task x.job x.due (W q x.task).view h.0 h.1))
      1 st.slots (places_both (Read W) (λ q x. InTime st.clock x.job x.due) 1 st.slots s.agree in_times))

-- a list of calls
pub run_sim : (tasks : List Assigned) (calls : List Call) (st : State) (W : ℕ → Assigned → Watch) → Sim tasks st W → Sim tasks (finally st calls) (λ q t. watch t q (W q t) calls (answers st calls))
run_sim tasks [] st W s = s
run_sim tasks (c ∷ cs) st W s = run_sim tasks cs (step st c).0 (λ q t. seen t q (W q t) c (step st c).1) (step_sim tasks st W s c)

module _ (cores clock : ℕ) (tasks : List Assigned) (fit : Schedulable cores tasks) where
  start_sim : Sim tasks (start cores clock tasks) (λ q t. opening clock)
  start_sim = record {
    schedulable = fit;
    invariant = start_holds cores (min clock clock_end) tasks fit;
    row = [];
    rows = λ q t. refl;
    clocks = λ q t. refl;
    agree = places-map (λ q t. Unit {0}) (Read (λ q t. opening clock)) unreleased (λ q t _. refl) 1 tasks (places_any (λ q t. Unit {0}) (λ q t. tt) 1 tasks);
    shown = places-map (λ q t. Unit {0}) (Shown []) unreleased (λ q t _ e. absurd (both_ways false refl e)) 1 tasks (places_any (λ q t. Unit {0}) (λ q t. tt) 1 tasks);
  }

  pub from_start : (calls : List Call) → Sim tasks (finally (start cores clock tasks) calls) (λ q t. watch t q (opening clock) calls (answers (start cores clock tasks) calls))
  from_start calls = run_sim tasks calls (start cores clock tasks) (λ q t. opening clock) start_sim

pub machine_never_late : MachineNeverLate
machine_never_late cores clock tasks fit calls = on_time tasks (finally (start cores clock tasks) calls) (λ q t. watch t q (opening clock) calls (answers (start cores clock tasks) calls)) (from_start cores clock tasks fit calls)

pub same_clock_lem : SameClock
same_clock_lem cores clock tasks fit calls = (from_start cores clock tasks fit calls).clocks

pub reading_agrees_lem : ReadingAgrees
reading_agrees_lem cores clock tasks fit calls = (from_start cores clock tasks fit calls).agree

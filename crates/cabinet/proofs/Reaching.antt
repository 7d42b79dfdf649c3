-- What a state keeps that a cabinet comes to, call by call and over runs. Assumes nothing.
use Rattle.std.proofs.Common.{◌≡◌, ℕ, ◌-◌, ◌<◌, false, not, List, [], ◌∷◌, ◌++◌, take, Some, IfSome, sym, refl, ap, ◌∙◌, subst}
use Rattle.std.specs.Bool.{then_some}
use mathlib.Core.Logic.{∥∥₁_elim, ∥∥₁_map}
use native.Mathlib.Bridge.{le_prop}
use Rattle.std.specs.List.{AllByRecursion}
use Rattle.std.proofs.ByRecursion.{All-get_or}
use Rattle.machine.specs.declared.types.Job.{Job}
use Rattle.machine.specs.declared.types.Job.TheVariants.{Idle, Ready, Inside}
use Rattle.machine.specs.declared.types.Slot.{Slot}
use Rattle.machine.specs.declared.types.Call.{Call}
use Rattle.machine.specs.Slots.{is_idle}
use Rattle.machine.specs.Law.{NeverLate}
use Rattle.machine.specs.Machine.{State, Reply, slot_at, step, finally, answers, start}
use Rattle.machine.proofs.Calls.{InTime, in_time_lem}
use Rattle.machine.proofs.Runs.{finally-append, answers-append, same_schedulable, never_late_prop, answers-take}
use Rattle.machine.proofs.Simulation.{from_start, machine_never_late}
use Rattle.cabinet.specs.declared.plain.Plain.{Plain}
use Rattle.cabinet.specs.declared.cabinet.Cabinet.{Cabinet}
use Rattle.cabinet.specs.States.{state_of}
use Rattle.cabinet.specs.Reached.{Reached}
use Rattle.cabinet.specs.Calls.{Kept}
use Rattle.cabinet.specs.Cabinets.{state}
use Rattle.cabinet.proofs.Indexing.{slot_index}

-- one more call
reached_more : (st next : State) (call : Call) → next ≡ (step st call).0 → Reached st → Reached next
reached_more st next call e r = record {
  cores = r.cores;
  clock = r.clock;
  tasks = r.tasks;
  schedulable = r.schedulable;
  past = r.past ++ call ∷ [];
  comes = e ∙ ap (λ x. (step x call).0) r.comes ∙ sym (finally-append r.past (call ∷ []) (start r.cores r.clock r.tasks));
}

-- so what a cabinet's type keeps is kept by a call
pub keeps : (old : Cabinet) (next : Plain) (call : Call) (reply : Reply) → step (state old) call ≡ (state_of next, reply) → ∥ Reached (state_of next) ∥₁
keeps old next call reply e = ∥∥₁_map {B = Reached (state_of next)} old.reached (reached_more (state old) (state_of next) call (sym (ap (λ x. x.0) e)))

-- no job is late, in the records
reached_in_time : (st : State) → Reached st → AllByRecursion (λ s. InTime st.clock s.job s.due) st.slots
reached_in_time st r =
    let end = finally (start r.cores r.clock r.tasks) r.past in
    subst (λ x. AllByRecursion (λ s. InTime x.clock s.job s.due) x.slots) (sym r.comes) (in_time_lem end.cores end.clock r.tasks end.slots (from_start r.cores r.clock r.tasks r.schedulable r.past).invariant)

pub due_later : (st : State) (place : ℕ) (x : Slot) → ∥ Reached st ∥₁ → Some x ≡ slot_at place st.slots → false ≡ is_idle x.job → st.clock < x.due
due_later st place x t is busy = ∥∥₁_elim t le_prop (λ r. go x.job x.due busy (at r))
  where
    at : Reached st → InTime st.clock x.job x.due
    at r =
        let index = slot_index place st.slots x is in
        subst (λ s. InTime st.clock s.job s.due) (sym (index.2 x)) (All-get_or (λ s. InTime st.clock s.job s.due) st.slots (place - 1) x index.1 (reached_in_time st r))

    go : (j : Job) (due : ℕ) → false ≡ is_idle j → InTime st.clock j due → st.clock < due
    go Idle due e h = absurd cc
    go (Ready k) due e h = h
    go (Inside k left) due e h = h

pub due_of_later : (j : Job) (now due : ℕ) → (false ≡ is_idle j → now < due) → IfSome (then_some (not (is_idle j)) due) (λ d. now < d)
due_of_later Idle now due h = tt
due_of_later (Ready k) now due h = h refl
due_of_later (Inside k left) now due h = h refl

-- no job is late, in the outside reading: the tasks that the state comes from are schedulable, since tasks and cores stay
pub kept : (st : State) (calls : List Call) (replies : List Reply) → ∥ Reached st ∥₁ → replies ≡ answers st calls → Kept st calls replies
kept st calls replies t e cores clock tasks past comes k =
    let s0 = start cores clock tasks in
    let same : answers s0 (past ++ take k calls) ≡ answers s0 past ++ take k replies =
    answers-append past (take k calls) s0 ∙ ap (λ x. answers s0 past ++ answers x (take k calls)) (sym comes)
    ∙ ap (λ l. answers s0 past ++ l) (answers-take k calls st ∙ ap (take k) (sym e)) in
    ∥∥₁_elim t (never_late_prop clock tasks (past ++ take k calls) (answers s0 past ++ take k replies)) (λ r.
    let fit = same_schedulable r.cores r.clock cores clock r.tasks tasks r.past past (sym r.comes ∙ comes) r.schedulable in
    subst (NeverLate clock tasks (past ++ take k calls)) same (machine_never_late cores clock tasks fit (past ++ take k calls)))

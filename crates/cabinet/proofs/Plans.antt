-- A cabinet that is loaded with a cleared plan. Assumes nothing.
use Rattle.std.proofs.Common.{◌≡◌, ℕ, ◌≤◌, List, [], length, sym, subst, arith}
use mathlib.Core.Logic.{∥∥₁_elim, ∥∥₁_map}
use native.Mathlib.Bridge.{le_prop}
use Rattle.coretests.specs.Edf.{edf_limit}
use Rattle.clearing.specs.declared.cleared.Cleared.{Cleared}
use Rattle.clearing.specs.Clearing.{table_in, rows_in}
use Rattle.machine.specs.declared.types.Assigned.{Assigned}
use Rattle.machine.specs.Assigning.{AssignedAll}
use Rattle.machine.specs.Schedulable.{Schedulable}
use Rattle.machine.specs.Law.{NeverLate}
use Rattle.machine.specs.Machine.{State, answers, start}
use Rattle.machine.proofs.Assigning.{fits_level}
use Rattle.machine.proofs.Plans.{lawful_is_schedulable_lem}
use Rattle.machine.proofs.Runs.{never_late_prop}
use Rattle.machine.proofs.Simulation.{machine_never_late}
use Rattle.cabinet.specs.Reached.{Reached}
use Rattle.cabinet.specs.Cabinets.{Loaded}

-- a cleared plan has a row for each task
pub plan_level : (plan : Cleared) → length (table_in plan).tasks ≡ length (rows_in plan)
plan_level plan =
    let ts = (table_in plan).tasks in
    let rs = rows_in plan in
    let low : length ts ≤ length rs = ∥∥₁_elim plan.lawful le_prop (λ law. omega (arith, fits_level edf_limit (table_in plan) [] ts rs law.fits)) in
    let high : length rs ≤ length ts = ∥∥₁_elim plan.lawful le_prop (λ law. omega (arith, fits_level edf_limit (table_in plan) [] ts rs law.fits)) in
    omega arith

module _ (plan : Cleared) (clock : ℕ) (tasks : List Assigned) (all : AssignedAll (table_in plan).tasks (rows_in plan) tasks) where
  schedulable : ∥ Schedulable (table_in plan).cores tasks ∥₁
  schedulable = ∥∥₁_map {B = Schedulable (table_in plan).cores tasks} plan.lawful (λ law. lawful_is_schedulable_lem (table_in plan) (rows_in plan) tasks plan.table.table.rules law all)

  pub load_reaches : (st : State) → st ≡ start (table_in plan).cores clock tasks → ∥ Reached st ∥₁
  load_reaches st e = ∥∥₁_map {B = Reached st} schedulable (λ fit. record { cores = (table_in plan).cores; clock = clock; tasks = tasks; schedulable = fit; past = []; comes = e })

  pub load-starts : (st : State) → st ≡ start (table_in plan).cores clock tasks → Loaded plan clock st
  load-starts st e = record {
    tasks = tasks;
    assigned = all;
    starts = e;
    in_time = λ calls. ∥∥₁_elim schedulable (never_late_prop clock tasks calls (answers st calls)) (λ fit.
        subst (λ x. NeverLate clock tasks calls (answers x calls)) (sym e) (machine_never_late (table_in plan).cores clock tasks fit calls));
  }

-- A run from a loaded plan. Assumes nothing.
use Rattle.std.proofs.Common.{◌≡◌, ℕ, ◌≤◌, List, map, take, sym, ap, ◌∙◌, subst}
use Rattle.std.proofs.lemmas.List.{take-take}
use Rattle.tasks.specs.Tasks.{Table}
use Rattle.plans.specs.declared.types.Row.{Row}
use Rattle.clearing.specs.declared.cleared.Cleared.{Cleared}
use Rattle.clearing.specs.Clearing.{table_in, rows_in}
use Rattle.machine.specs.declared.types.Call.{Call}
use Rattle.machine.specs.Machine.{Answer, State, reply_of, answers, start}
use Rattle.machine.specs.Law.{NeverLate}
use Rattle.machine.specs.Assigning.{AssignedAll}
use Rattle.machine.proofs.Runs.{answers-take}
use Rattle.cabinet.specs.Cabinets.{Loaded}
use Rattle.cabinet.specs.Calls.{Runs}
use Rattle.rehearsals.specs.Promises.{RunsInTime}

module _ (table : Table) (rows : List Row) (clock : ℕ) (plan : Cleared) (st next : State) (calls : List Call) (log new : List Answer) (n : ℕ) (same-table : table_in plan ≡ table) (same_rows : rows_in plan ≡ rows) (l : Loaded plan clock st) (r : Runs st calls log n next new) where
  -- the first k replies are those to the first k calls
  front : (k : ℕ) → k ≤ n → answers st (take k calls) ≡ take k (map reply_of (take n new))
  front k h = ap (answers st) (sym (take-take k n calls h)) ∙ answers-take k (take n calls) st ∙ ap (take k) (sym r.replies)

  pub runs_in_time : RunsInTime table rows clock calls log n new
  runs_in_time = record {
    tasks = l.tasks;
    assigned = subst (λ t. AssignedAll t.tasks rows l.tasks) same-table (subst (λ x. AssignedAll (table_in plan).tasks x l.tasks) same_rows l.assigned);
    count = r.count;
    replies = r.replies ∙ ap (λ s. answers s (take n calls)) (l.starts ∙ ap (λ t. start t.cores clock l.tasks) same-table);
    rest = r.rest;
    never_late = λ k h. subst (NeverLate clock l.tasks (take k calls)) (front k h) (l.in_time (take k calls));
  }

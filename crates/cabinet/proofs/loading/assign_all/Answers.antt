use Rattle.std.proofs.Common.{◌≡◌, true, List, ◌∷◌, None, sym, refl, ap, ◌∙◌, subst, inl, inr, ⊎_elim, arith}
use Rattle.std.specs.Slice.Iter.{iter_rest}
use Rattle.std.specs.Iterator.Adapters.{zip_first, zip_second}
use Rattle.std.proofs.lemmas.Slice.Zip.{either_empty_from_Zip}
use Rattle.std.proofs.lemmas.Bool.{and_parts}
use Rattle.bounded.specs.Lists.{list_of}
use Rattle.tasks.specs.Tasks.{Task, every, in_range}
use Rattle.tasks.specs.Stored.{task_of, tasks_of}
use Rattle.tasks.specs.Tables.{sealed}
use Rattle.tasks.proofs.Rules.{rules_are}
use Rattle.plans.specs.declared.types.Row.{Row}
use Rattle.bounded.proofs.Pushed.{pushed}
use Rattle.machine.proofs.Assigning.{Assigns, assigns_more, assigns_end}
use Rattle.cabinet.proofs.loading.assign_all.Goals as goal
use Rattle.cabinet.proofs.loading.assign_all.Goals.{In-Some}

-- the step of the iterator, in what is left to assign
module _ (c : In-Some) where
  abbrev ts : List Task
  ts = tasks_of (iter_rest (zip_first c.next.new.self))

  abbrev rs : List Row
  rs = iter_rest (zip_second c.next.new.self)

  ranges : every in_range (task_of c.in-Some.task.now ∷ ts) ≡ true
  ranges = ap (λ l. every in_range (tasks_of l)) (sym c.in-Some.ensures.steps.0) ∙ c.loop-task.invariant.0

  assigns : Assigns (sealed c.args.table.now).tasks c.args.rows.now (list_of c.loop-task.all) (task_of c.in-Some.task.now ∷ ts) (c.in-Some.row.now ∷ rs)
  assigns =
      let steps = c.in-Some.ensures.steps in
      let all = (sealed c.args.table.now).tasks in
      let rows = c.args.rows.now in
      let done = list_of c.loop-task.all in
      subst (Assigns all rows done (task_of c.in-Some.task.now ∷ ts)) steps.1 (subst (λ l. Assigns all rows done (tasks_of l) (iter_rest (zip_second c.loop-task.task-iterator))) steps.0 c.loop-task.invariant.1)

pub loop-task-preserved : goal.loop-task-preserved
loop-task-preserved c =
    let at = (goal.at.loop-task-preserved c).In-Some in
    let table = sealed c.args.table.now in
    let t = task_of c.in-Some.task.now in
    let r = c.in-Some.row.now in
    let done = list_of c.loop-task.all in
    let before = assigns at in
    let more = pushed done (list_of c.push.new.self) c.assign.result 24 c.push.result c.push.ensures.ok c.push.ensures.variant (omega (arith, before.room, (rules_are table c.args.table.now.table.rules).few)) in (
      (and_parts (in_range t) (every in_range (ts at)) (ranges at)).1,
      subst (λ l. Assigns table.tasks c.args.rows.now l (ts at) (rs at)) (sym more) (assigns_more table.tasks c.args.rows.now done t (ts at) r (rs at) c.assign.result c.assign.ensures before),
    )

pub returns : goal.returns
returns c =
    let it = c.loop-task.task-iterator in
    assigns_end (sealed c.args.table.now).tasks c.args.rows.now (list_of c.loop-task.all) (tasks_of (iter_rest (zip_first it))) (iter_rest (zip_second it)) c.loop-task.invariant.1
    (⊎_elim (λ e. inl (ap tasks_of e)) (λ e. inr e) (either_empty_from_Zip it c.next.new.self None refl c.in-None.ensures.steps))

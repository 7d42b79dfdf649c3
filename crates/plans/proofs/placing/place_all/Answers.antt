use Rattle.std.proofs.Common.{◌≡◌, true, ◌/◌, [], ◌∷◌, ◌++◌, None, sym, refl, ap, ◌∙◌, subst, inl, inr, ⊎_elim, arith}
use Rattle.std.specs.Slice.Iter.{iter_rest}
use Rattle.std.specs.Iterator.Adapters.{zip_first, zip_second}
use Rattle.std.proofs.lemmas.Slice.Zip.{either_empty_from_Zip}
use Rattle.bounded.specs.Lists.{list_of}
use Rattle.tasks.specs.Tasks.{Table, in_range}
use Rattle.tasks.specs.Stored.{task_of, tasks_of}
use Rattle.tasks.specs.Tables.{sealed}
use Rattle.tasks.proofs.Rules.{in_range_period}
use Rattle.bounded.proofs.Pushed.{pushed}
use Rattle.plans.proofs.Costs.{weight_small}
use Rattle.plans.proofs.Places.{place_with, placing_room, placing_end, RangedPlacing, ranged_start, ranged_at, placing_range, ranged_more}
use Rattle.plans.proofs.placing.place_all.Goals as goal
use Rattle.plans.proofs.placing.place_all.Goals.{In-Some}

pub loop-task-init : goal.loop-task-init
loop-task-init c =
    let table = sealed c.args.table.now in
    let rows = c.args.rows.now in
    let it = c.into_iter-task-iterator.ensures.into_iter_gives in
    let tasks = ap (λ z. iter_rest (zip_first z)) it ∙ ap iter_rest c.zip-task-items.ensures.first ∙ c.iter.ensures.rest in
    let rest = ap (λ z. iter_rest (zip_second z)) it ∙ c.zip-task-items.ensures.second.0 in
    subst (λ l. RangedPlacing table rows l (tasks_of (iter_rest (zip_first c.into_iter-task-iterator.result))) (iter_rest (zip_second c.into_iter-task-iterator.result))) (sym c.default-all.ensures)
    (ranged_at table rows [] _ _ _ _ (sym tasks) (sym rest) (subst (λ l. RangedPlacing table rows [] l rows) (sym c.tasks.ensures) (ranged_start table rows c.args.table.now.table.rules)))

module _ (c : In-Some) where
  abbrev table : Table
  table = sealed c.args.table.now

  ranged : RangedPlacing table c.args.rows.now (list_of c.loop-task.all) (task_of c.in-Some.task.now ∷ tasks_of (iter_rest (zip_first c.next.new.self))) (c.in-Some.row.now ∷ iter_rest (zip_second c.next.new.self))
  ranged =
      let steps = c.in-Some.ensures.steps in
      ranged_at table c.args.rows.now (list_of c.loop-task.all)
      (iter_rest (zip_first c.loop-task.task-iterator)) (c.in-Some.task.now ∷ iter_rest (zip_first c.next.new.self))
      (iter_rest (zip_second c.loop-task.task-iterator)) (c.in-Some.row.now ∷ iter_rest (zip_second c.next.new.self)) steps.0 steps.1 c.loop-task.invariant

  in_range_lem : in_range (task_of c.in-Some.task.now) ≡ true
  in_range_lem = placing_range table c.args.rows.now (list_of c.loop-task.all) (task_of c.in-Some.task.now) (tasks_of (iter_rest (zip_first c.next.new.self))) c.in-Some.row.now (iter_rest (zip_second c.next.new.self)) ranged

pub nonzero_div-weight : goal.nonzero_div-weight
nonzero_div-weight c = in_range_period (task_of c.in-Some.task.now) (in_range_lem c)

pub cut_cost-price-requires : goal.cut_cost-price-requires
cut_cost-price-requires c = in_range_lem (goal.at.cut_cost-price-requires c).In-Some

pub placed-requires : goal.placed-requires
placed-requires c =
    record {
      range = in_range_lem (goal.at.placed-requires c).In-Some;
      cheap = c.cut_cost-price.ensures.bound;
      light = omega (arith, ap (λ n. n / c.in-Some.task.now.period) c.span-span.ensures.value, weight_small (sealed c.args.table.now) c.args.table.now.table.rules (task_of c.in-Some.task.now));
    }

pub loop-task-preserved : goal.loop-task-preserved
loop-task-preserved c =
    let at = (goal.at.loop-task-preserved c).In-Some in
    let t = task_of c.in-Some.task.now in
    let r = c.in-Some.row.now in
    let ts = tasks_of (iter_rest (zip_first c.next.new.self)) in
    let rs = iter_rest (zip_second c.next.new.self) in
    let done = list_of c.loop-task.all in
    let is = c.placed.ensures ∙ place_with (table at) t r c.span-span.result c.cut_cost-price.result c.span-span.ensures.value c.cut_cost-price.ensures.value in
    let more = pushed done (list_of c.push.new.self) c.placed.result 24 c.push.result c.push.ensures.ok c.push.ensures.variant (placing_room (table at) c.args.rows.now done t ts r rs (ranged at).placing) in
    subst (λ l. RangedPlacing (table at) c.args.rows.now l ts rs) (sym (more ∙ ap (λ p. done ++ p ∷ []) is)) (ranged_more (table at) c.args.rows.now done t ts r rs (ranged at))

pub returns : goal.returns
returns c =
    let it = c.loop-task.task-iterator in
    placing_end (sealed c.args.table.now) c.args.rows.now (list_of c.loop-task.all) (tasks_of (iter_rest (zip_first it))) (iter_rest (zip_second it)) c.loop-task.invariant.placing
    (⊎_elim (λ e. inl (ap tasks_of e)) (λ e. inr e) (either_empty_from_Zip it c.next.new.self None refl c.in-None.ensures.steps))

use Rattle.std.proofs.Common.{rules, ◌≡◌, [], ◌∷◌, ◌++◌, None, sym, refl, ap, ◌∙◌, subst, inl, inr, ⊎_elim}
use Rattle.std.specs.Slice.Iter.{iter_rest}
use Rattle.std.specs.Iterator.Adapters.{enumerate_source, enumerate_count, zip_first, zip_second}
use Rattle.std.proofs.lemmas.Slice.Zip.{either_empty_from_Zip}
use Rattle.bounded.proofs.Pushed.{pushed}
use Rattle.bounded.specs.Lists.{list_of}
use Rattle.tasks.specs.Tasks.{every}
use Rattle.tasks.specs.Cuts.{regions}
use Rattle.tasks.specs.Stored.{task_of, tasks_of}
use Rattle.tasks.specs.Tables.{sealed}
use Rattle.cuts.specs.Allowed.{within}
use Rattle.plans.specs.Plans.{on_core, rows_placed}
use Rattle.clearing.proofs.Regions.{examining_room, examining_end, RangedExamining, examining_range, ranged_more}
use Rattle.clearing.proofs.examine.examine_regions.Goals as goal

pub regions_within-requires : goal.regions_within-requires
regions_within-requires g c =
    let source = enumerate_source c.loop-i.i-iterator in
    let next = enumerate_source c.next.new.self in
    let steps = c.in-Some.ensures.steps in
    examining_range (g.C.CoreTest.limit c.args.test.now) (sealed c.args.table.now) (rows_placed (list_of c.args.placed.now)) (list_of c.loop-i.before) (enumerate_count c.loop-i.i-iterator)
    (task_of c.in-Some.task.now) (tasks_of (iter_rest (zip_first next))) (tasks_of (iter_rest (zip_first source))) c.in-Some.here.now (iter_rest (zip_second next)) (iter_rest (zip_second source))
    (ap tasks_of steps.0.0) steps.0.1 c.loop-i.invariant.examining

pub loop-i-preserved : goal.loop-i-preserved
loop-i-preserved g c =
    let limit = g.C.CoreTest.limit c.args.test.now in
    let source = enumerate_source c.loop-i.i-iterator in
    let next = enumerate_source c.next.new.self in
    let before = list_of c.loop-i.before in
    let t = task_of c.in-Some.task.now in
    let p = c.in-Some.here.now in
    let steps = c.in-Some.ensures.steps in
    let at = c.loop-i.invariant.examining in
    let i = enumerate_count c.loop-i.i-iterator in
    let table = sealed c.args.table.now in
    let rows = rows_placed (list_of c.args.placed.now) in
    let ts = tasks_of (iter_rest (zip_first next)) in
    let us = tasks_of (iter_rest (zip_first source)) in
    let ps = iter_rest (zip_second next) in
    let qs = iter_rest (zip_second source) in
    let tasks : us ≡ t ∷ ts = ap tasks_of steps.0.0 in
    let longest = c.longest-longest.ensures ∙ ap (λ l. limit l t.deadline) (c.as_slice-in-loop-i-2.ensures.value ∙ c.on_core-list.ensures.items ∙ ap (on_core p.row.core) c.as_slice-in-loop-i.ensures.value) in
    let short = ap (λ o. every (within o) (regions t p.row.cuts)) (sym longest) ∙ sym c.regions_within.ensures ∙ c.if-not-regions_within.false in
    let room = examining_room limit table rows before i t ts us p ps qs tasks steps.0.1 at.examining in
    let grew = pushed before (list_of c.push.new.self) p 24 c.push.result c.push.ensures.ok c.push.ensures.variant room in
    let more = ranged_more limit table rows before i t ts us p ps qs tasks steps.0.1 at short in
    record {
      can = search rules;
      finite = search rules;
      examining = subst (λ l. RangedExamining limit table rows l (enumerate_count c.next.new.self) ts ps) (sym grew) (subst (λ k. RangedExamining limit table rows (before ++ p ∷ []) k ts ps) (sym steps.2) more);
    }

pub returns : goal.returns
returns g c =
    let it = c.loop-i.i-iterator in
    let source = enumerate_source it in
    let ended = either_empty_from_Zip source (enumerate_source c.next.new.self) None refl c.in-None.ensures.steps.0 in
    examining_end (g.C.CoreTest.limit c.args.test.now) (sealed c.args.table.now) (rows_placed (list_of c.args.placed.now)) (list_of c.loop-i.before) (enumerate_count it) (tasks_of (iter_rest (zip_first source))) (iter_rest (zip_second source))
    c.loop-i.invariant.examining.examining (⊎_elim (λ e. inl (ap tasks_of e)) (λ e. inr e) ended)

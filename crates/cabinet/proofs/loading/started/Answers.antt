use Rattle.std.proofs.Common.{◌≡◌, ◌∷◌, [], ◌++◌, length, map, sym, ap, ◌∙◌, arith, length-take}
use Rattle.std.proofs.lemmas.List.{length-map, map_more, take_all}
use Rattle.bounded.specs.Lists.{list_of}
use Rattle.bounded.proofs.Pushed.{pushed}
use Rattle.machine.specs.Slots.{unreleased}
use Rattle.cabinet.proofs.loading.started.Goals as goal

pub loop-task-preserved : goal.loop-task-preserved
loop-task-preserved c =
    let items = c.as_slice-task-items.result.now in
    let i = c.loop-task.task-index in
    let done = list_of c.loop-task.slots in
    let slot = c.unreleased.result in
    let long : length done ≡ i = ap length c.loop-task.invariant ∙ simp (length-map, length-take) (omega arith) in
    let here = c.unreleased.ensures ∙ ap unreleased c.task-item.is in
    pushed done (list_of c.push.new.self) slot 24 c.push.result c.push.ensures.ok c.push.ensures.variant (omega (arith, c.as_slice-task-items.ensures.bound))
    ∙ (λ j. c.loop-task.invariant j ++ here j ∷ []) ∙ sym (map_more unreleased items i c.task-item.result c.loop-task-test.true)

pub returns : goal.returns
returns c =
    let items = c.as_slice-task-items.result.now in
    let all : list_of c.loop-task.slots ≡ map unreleased items = c.loop-task.invariant ∙ ap (map unreleased) (take_all c.loop-task.task-index items (omega arith)) in
    λ i. record { cores = c.args.cores; clock = c.min.ensures i; slots = (all ∙ ap (map unreleased) c.as_slice-task-items.ensures.value) i }

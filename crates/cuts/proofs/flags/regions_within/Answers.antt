use Rattle.std.proofs.Common.{◌≡◌, ℕ, ◌+◌, ◌<◌, ◌&&◌, List, length, get_or, drop, sym, ap, ◌∙◌, arith}
use mathlib.Core.Bool.{and-true}
use Rattle.std.proofs.lemmas.List.{at_drop_all}
use Rattle.tasks.specs.Tasks.{every}
use Rattle.cuts.specs.Regions.{regions_of}
use Rattle.tasks.specs.Cuts.{regions, regions_from}
use Rattle.tasks.specs.Stored.{task_of}
use Rattle.cuts.specs.Allowed.{within}
use Rattle.cuts.proofs.Ranges.{ranges_at, first_block, in_blocks, cost_at_lem, block_after}
use Rattle.cuts.proofs.Points.{regions_cut, regions-on}
use Rattle.cuts.proofs.Steps.{regions-start}
use Rattle.cuts.proofs.flags.regions_within.Goals as goal
use Rattle.cuts.proofs.flags.regions_within.Goals.{then-cuts-j+else-not-is_within, else-cuts-j}

pub loop-j-init : goal.loop-j-init
loop-j-init c =
    let bs = c.as_slice-blocks.result.now in
    let ps = c.as_slice-points.result.now in
    let r = ranges_at (task_of c.args.task.now) bs ps c.as_slice-blocks.ensures.value c.as_slice-points.ensures.value c.requires in
    (ap (every (within c.args.limit)) (regions-start bs ps c.args.cuts.now r.some), omega (arith, first_block r))

pub returns-then-not-is_within : goal.returns-then-not-is_within
returns-then-not-is_within c =
    let bs = c.as_slice-blocks.result.now in
    let ps = c.as_slice-points.result.now in
    let r = ranges_at (task_of c.args.task.now) bs ps c.as_slice-blocks.ensures.value c.as_slice-points.ensures.value c.requires in
    let fs = c.args.cuts.now in
    let j = c.loop-j.j in
    let test = every (within c.args.limit) in
    let in_flags : j < length fs = omega arith in
    let rest = regions_from (get_or ps j 0 + get_or bs (j + 1) 0) (drop (j + 1 + 1) bs) (drop (j + 1) ps) (drop (j + 1) fs) in
    let whole : test (regions_of bs ps fs) ≡ test (regions (task_of c.args.task.now) fs) = λ i. test (regions_of (c.as_slice-blocks.ensures.value i) (c.as_slice-points.ensures.value i) fs) in
    ap (λ b. b && test rest) c.if-not-is_within.ensures
    ∙ sym (ap test (regions_cut bs ps fs c.loop-j.length j (in_blocks r j c.loop-j-test.true) c.loop-j-test.true in_flags c.if-cuts-j.true))
    ∙ c.loop-j.invariant.0 ∙ whole

pub overflow_add-length-then-cuts-j : goal.overflow_add-length-then-cuts-j
overflow_add-length-then-cuts-j c =
    let bs = c.as_slice-blocks.result.now in
    let ps = c.as_slice-points.result.now in
    let r = ranges_at (task_of c.args.task.now) bs ps c.as_slice-blocks.ensures.value c.as_slice-points.ensures.value c.requires in
    omega (arith, cost_at_lem r c.loop-j.j c.loop-j-test.true, block_after r c.loop-j.j c.loop-j-test.true)

pub overflow_add-length-else-cuts-j-2 : goal.overflow_add-length-else-cuts-j-2
overflow_add-length-else-cuts-j-2 c =
    let bs = c.as_slice-blocks.result.now in
    let ps = c.as_slice-points.result.now in
    let r = ranges_at (task_of c.args.task.now) bs ps c.as_slice-blocks.ensures.value c.as_slice-points.ensures.value c.requires in
    omega (arith, block_after r c.loop-j.j c.loop-j-test.true, c.loop-j.invariant.1, r.fewer, r.few)

pub loop-j-preserved : goal.loop-j-preserved
loop-j-preserved c =
    let bs = c.as_slice-blocks.result.now in
    let ps = c.as_slice-points.result.now in
    let r = ranges_at (task_of c.args.task.now) bs ps c.as_slice-blocks.ensures.value c.as_slice-points.ensures.value c.requires in
    let fs = c.args.cuts.now in
    let j = c.loop-j.j in
    let n = c.loop-j.length in
    let test = every (within c.args.limit) in
    let in_points = c.loop-j-test.true in
    let in_flags : j < length fs = omega arith in
    let after : ℕ → List ℕ = λ m. regions_from m (drop (j + 1 + 1) bs) (drop (j + 1) ps) (drop (j + 1) fs) in
    elim c.if-cuts-j.branch [
      | then-cuts-j+else-not-is_within w ↦ (
        ap (λ m. test (after m)) w.length-is
            ∙ ap (λ b. b && test (after (get_or ps j 0 + get_or bs (j + 1) 0))) w.if-not-is_within.ensures
            ∙ sym (ap test (regions_cut bs ps fs n j (in_blocks r j in_points) in_points in_flags w.if-cuts-j.true))
            ∙ c.loop-j.invariant.0,
        omega (arith, w.length-is, cost_at_lem r j in_points, block_after r j in_points),
      )
      | else-cuts-j w ↦ (
        ap (λ m. test (after m)) w.length-is
            ∙ sym (ap test (regions-on bs ps fs n j (in_blocks r j in_points) in_points in_flags w.if-cuts-j.false))
            ∙ c.loop-j.invariant.0,
        omega (arith, w.length-is, block_after r j in_points, c.loop-j.invariant.1),
      )
    ]

pub returns : goal.returns
returns c =
    let bs = c.as_slice-blocks.result.now in
    let ps = c.as_slice-points.result.now in
    let r = ranges_at (task_of c.args.task.now) bs ps c.as_slice-blocks.ensures.value c.as_slice-points.ensures.value c.requires in
    let fs = c.args.cuts.now in
    let j = c.loop-j.j in
    let test = every (within c.args.limit) in
    let whole : test (regions_of bs ps fs) ≡ test (regions (task_of c.args.task.now) fs) = λ i. test (regions_of (c.as_slice-blocks.ensures.value i) (c.as_slice-points.ensures.value i) fs) in
    let end = at_drop_all (λ xs. test (regions_from c.loop-j.length xs (drop j ps) (drop j fs))) bs (j + 1) (omega (arith, r.fewer, c.loop-j-test.false)) in
    c.is_within-2.ensures ∙ sym (and-true (within c.args.limit c.loop-j.length)) ∙ sym end ∙ c.loop-j.invariant.0 ∙ whole

use Rattle.std.proofs.Common.{◌<◌, length, drop, ap, arith}
use Rattle.std.proofs.lemmas.List.{at_drop_all}
use Rattle.tasks.specs.Cuts.{cost_at}
use Rattle.tasks.specs.Stored.{task_of}
use Rattle.cuts.proofs.Ranges.{cut_cost_bound}
use Rattle.cuts.proofs.Points.{cost_cut, cost-on}
use Rattle.cuts.proofs.flags.cut_cost.Goals as goal
use Rattle.cuts.proofs.flags.cut_cost.Goals.{then-cuts-j, else-cuts-j}

pub overflow_add-cost : goal.overflow_add-cost
overflow_add-cost c =
    let ps = c.as_slice-points.result.now in
    let fs = c.args.cuts.now in
    let whole = ap (λ ns. cost_at ns fs) c.as_slice-points.ensures.value in
    omega (arith, cut_cost_bound (task_of c.args.task.now) fs c.requires, whole, cost_cut ps fs c.loop-j.j c.loop-j-test.true (omega arith) c.if-cuts-j.true, c.loop-j.invariant)

pub loop-j-preserved : goal.loop-j-preserved
loop-j-preserved c =
    let ps = c.as_slice-points.result.now in
    let fs = c.args.cuts.now in
    let in_flags : c.loop-j.j < length fs = omega arith in
    elim c.if-cuts-j.branch [
      | then-cuts-j w ↦ omega (arith, cost_cut ps fs c.loop-j.j c.loop-j-test.true in_flags w.if-cuts-j.true, c.loop-j.invariant, w.cost-is)
      | else-cuts-j w ↦ omega (arith, cost-on ps fs c.loop-j.j c.loop-j-test.true in_flags w.if-cuts-j.false, c.loop-j.invariant, w.cost-is)
    ]

pub returns : goal.returns
returns c =
    let ps = c.as_slice-points.result.now in
    let fs = c.args.cuts.now in
    let whole = ap (λ ns. cost_at ns fs) c.as_slice-points.ensures.value in
    let none = at_drop_all (λ ns. cost_at ns (drop c.loop-j.j fs)) ps c.loop-j.j c.loop-j-test.false in
    record {
      value = omega (arith, whole, none, c.loop-j.invariant);
      bound = omega (arith, whole, none, c.loop-j.invariant, cut_cost_bound (task_of c.args.task.now) fs c.requires);
    }

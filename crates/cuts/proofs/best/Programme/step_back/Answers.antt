use Rattle.std.proofs.Common.{◌-◌, arith}
use Rattle.tasks.specs.Stored.{task_of}
use Rattle.cuts.proofs.Ranges.{ranges, point_before}
use Rattle.cuts.proofs.Dynamic.{known_more, cut_known, best_bound}
use Rattle.cuts.proofs.best.Programme.step_back.Goals as goal

pub overflow_add-cost : goal.overflow_add-cost
overflow_add-cost c =
    let s = c.args.self.now in
    let small = point_before (ranges (task_of s.task.now) s.ranges) s.from c.requires s.place in
    omega (arith, c.at-cost.ensures 0, c.at.ensures 0, small.0, small.1)

pub best-rest-requires : goal.best-rest-requires
best-rest-requires c =
    let s = c.args.self.now in
    let small = point_before (ranges (task_of s.task.now) s.ranges) s.from c.requires s.place in
    omega (arith, c.at-cost.ensures 0, c.at.ensures 0, small.0, small.1)

pub with_cut-requires : goal.with_cut-requires
with_cut-requires c =
    let s = c.args.self.now in
    let t = task_of s.task.now in
    let r = ranges t s.ranges in
    let small = point_before r s.from c.requires s.place in
    record {
      place = omega (arith, s.place, r.few, r.fewer);
      small = omega (arith, c.at-cost.ensures 0, small.0);
      bound = best_bound s.limit t r _ s.from c.best-rest.result c.best-rest.ensures s.place;
    }

pub invariant_of-self : goal.invariant_of-self
invariant_of-self c =
    let s = c.args.self.now in
    let t = task_of s.task.now in
    let r = ranges t s.ranges in
    let point = s.from - 1 in
    record {
      ranges = s.ranges;
      place = omega (arith, s.place);
      known = known_more s.limit t s.memo point c.with_cut.result (omega (arith, s.place, r.few, r.fewer)) (λ e le lt. s.known e (omega arith) lt)
          (cut_known s.limit t point s.from c.at-cost.result c.at.result c.best-rest.result c.with_cut.result (omega arith) (c.at-cost.ensures 0) (c.at.ensures 0) c.best-rest.ensures c.with_cut.ensures);
    }

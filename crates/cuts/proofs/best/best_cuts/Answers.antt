use Rattle.std.proofs.Common.{◌≡◌, get_or, refl, ◌∙◌, arith}
use Rattle.tasks.specs.Stored.{task_of}
use Rattle.cuts.specs.Dynamic.{best_at}
use Rattle.cuts.proofs.Ranges.{ranges, first_block}
use Rattle.cuts.proofs.Dynamic.{best_bound, best_cuts_lem}
use Rattle.cuts.proofs.best.best_cuts.Goals as goal

pub best-requires : goal.best-requires
best-requires c = omega (arith, c.at.ensures 0, first_block (ranges (task_of c.args.task.now) c.requires))

pub returns : goal.returns
returns c =
    let t = task_of c.args.task.now in
    let r = ranges t c.requires in
    let now = c.loop-programme.invariant in
    let started : c.loop-programme.programme.from ≡ 0 = omega arith in
    let is : c.best.result ≡ best_at c.args.limit t (get_or t.blocks 0 0) 0 = c.best.ensures ∙ (λ i. best_at (now.limit i) (task_of (now.task i)) (c.at.ensures 0 i) (started i)) in
    record {
      best = best_cuts_lem c.args.limit t r t.blocks c.best.result refl is;
      bound = best_bound c.args.limit t r _ 0 c.best.result is (omega arith);
    }

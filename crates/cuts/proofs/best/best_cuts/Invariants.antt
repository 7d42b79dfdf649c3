use Rattle.std.proofs.Common.{◌≡◌}
use Rattle.cuts.proofs.best.best_cuts.Given as goal

abbrev pub invariant-loop-programme : goal.invariant-loop-programme
invariant-loop-programme l = record { task : l.programme.task.now ≡ l.task; limit : l.programme.limit ≡ l.fn.limit }

abbrev pub decreases-loop-programme : goal.decreases-loop-programme
decreases-loop-programme l = l.programme.from

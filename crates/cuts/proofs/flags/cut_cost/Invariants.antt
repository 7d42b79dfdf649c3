use Rattle.std.proofs.Common.{◌≡◌, ◌+◌, drop}
use Rattle.tasks.specs.Cuts.{cost_at}
use Rattle.cuts.proofs.flags.cut_cost.Given as goal

abbrev pub invariant-loop-j : goal.invariant-loop-j
invariant-loop-j l = l.cost + cost_at (drop l.j l.points) (drop l.j l.cuts) ≡ cost_at l.points l.cuts

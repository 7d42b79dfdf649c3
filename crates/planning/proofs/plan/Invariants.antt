use Rattle.std.proofs.Common.{◌≡◌}
use Rattle.planning.specs.Walk.{Going, steps_left}
use Rattle.planning.proofs.plan.Given as goal

abbrev pub invariant-loop : goal.invariant-loop
invariant-loop g l = record {
  table : l.walk.table.now ≡ l.table;
  test : l.walk.test.now ≡ l.test;
  going : Going (g.C.CoreTest.accepts l.walk.test.now) (g.C.CoreTest.limit l.walk.test.now) l.walk;
}

abbrev pub decreases-loop : goal.decreases-loop
decreases-loop g l = steps_left l.walk.core l.walk

use Rattle.std.proofs.Common.{◌≡◌, ◌≤◌}
use Rattle.planning.specs.Walk.{StandsAt, steps_left}
use Rattle.planning.proofs.types.Search.advance.Given as goal

abbrev pub invariant-loop-self : goal.invariant-loop-self
invariant-loop-self g l = record {
  table : l.self.table ≡ l.fn.self.table;
  test : l.self.test ≡ l.fn.self.test;
  stands : StandsAt (g.C.CoreTest.accepts l.fn.self.test.now) (g.C.CoreTest.limit l.fn.self.test.now) l.self.core l.self;
  fewer : steps_left l.self.core l.self ≤ steps_left l.initial.self.core l.initial.self;
}

abbrev pub decreases-loop-self : goal.decreases-loop-self
decreases-loop-self g l = steps_left l.self.core l.self

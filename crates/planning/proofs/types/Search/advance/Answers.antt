use Rattle.std.proofs.Common.{◌≡◌, ◌<◌, [], length, sym, arith}
use Rattle.std.proofs.lemmas.List.{nil_from_length}
use Rattle.std.proofs.lemmas.Bool.{ltb-false}
use Rattle.bounded.specs.Lists.{list_of}
use Rattle.plans.specs.Plans.{cores}
use Rattle.optimality.specs.Tests.{Laws}
use Rattle.optimality.proofs.Steps.{cores-length}
use Rattle.planning.specs.Walk.{table_in, rows_in}
use Rattle.planning.proofs.Measure.{left_next}
use Rattle.planning.proofs.Moves.{move_end}
use Rattle.planning.proofs.Next.{cores_range}
use Rattle.planning.proofs.Retreat.{Back, back}
use Rattle.planning.proofs.types.Search.advance.Given as given
use Rattle.planning.proofs.types.Search.advance.Goals as goal
use Rattle.planning.proofs.types.Search.advance.Goals.{In-Some}

laws : (g : given.Over) (x : _) → Laws (g.C.CoreTest.accepts x) (g.C.CoreTest.limit x)
laws g x = record { lighter = g.met.C.CoreTest.lighter x; longer = g.met.C.CoreTest.longer x; fewer = g.met.C.CoreTest.fewer x }

pub returns-in_default-clause-moves : goal.returns-in_default-clause-moves
returns-in_default-clause-moves g c =
    let s = c.loop-self.self in
    let used : (table_in s).cores < s.core = omega (arith, c.cores.ensures, c.loop-self-test.true) in
    let none : list_of s.placed ≡ [] = nil_from_length (list_of s.placed) (omega (arith, ltb-false 0 (length (list_of s.placed)) (sym c.in_default.ensures.test))) in
    move_end (laws g c.args.self.now.test.now) (table_in s) (rows_in s) (list_of s.placed) s.core s.cost s.best c.loop-self.invariant.stands used none

-- back to the last task that is placed
went_back : (g : given.Over) (c : In-Some g) → Back (g.C.CoreTest.accepts c.args.self.now.test.now) (g.C.CoreTest.limit c.args.self.now.test.now) c.loop-self.self (list_of c.pop.new.self) c.in-Some.last
went_back g c = back (laws g c.args.self.now.test.now) c.loop-self.self c.loop-self.invariant.stands (omega (arith, c.cores.ensures, c.loop-self-test.true)) (list_of c.pop.new.self) c.in-Some.last c.in-Some.ensures.items

pub overflow_sub-self : goal.overflow_sub-self
overflow_sub-self g c = (went_back g (goal.at.overflow_sub-self g c).In-Some).price

pub overflow_add-self-in-loop-self : goal.overflow_add-self-in-loop-self
overflow_add-self-in-loop-self g c =
    let b = went_back g (goal.at.overflow_add-self-in-loop-self g c).In-Some in
    omega (arith, b.core, (cores_range (table_in c.loop-self.self) c.loop-self.self.table.now.table.rules).1)

pub loop-self-smaller : goal.loop-self-smaller
loop-self-smaller g c = (went_back g (goal.at.loop-self-smaller g c).In-Some).fewer

pub loop-self-preserved : goal.loop-self-preserved
loop-self-preserved g c =
    let b = went_back g (goal.at.loop-self-preserved g c).In-Some in
    record { table = c.loop-self.invariant.table; test = c.loop-self.invariant.test; stands = b.stands; fewer = omega (arith, b.fewer, c.loop-self.invariant.fewer) }

pub returns-clause-moves : goal.returns-clause-moves
returns-clause-moves g c =
    let s = c.descend.new.self in
    let d = c.if-descend.ensures.moves in
    let next = left_next (table_in s).cores (length (table_in s).tasks) (cores (rows_in s)) s.core (omega (arith, cores-length (rows_in s), d.0.stands.short)) d.0.within in
    (record { stands = c.loop-self.invariant.stands; within = omega (arith, c.cores.ensures, c.loop-self-test.false) }, omega (arith, c.loop-self.invariant.fewer, next, d.1))

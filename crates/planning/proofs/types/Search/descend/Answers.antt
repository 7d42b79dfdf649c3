use Rattle.std.proofs.Common.{◌≡◌, ◌+◌, ◌/◌, length, get_or, Some, None, Option, sym, refl, ap, ◌∙◌, subst, arith}
use Rattle.bounded.specs.Lists.{list_of}
use Rattle.bounded.proofs.Pushed.{pushed}
use Rattle.tasks.specs.Tasks.{weight}
use Rattle.tasks.specs.Stored.{task_of}
use Rattle.tasks.proofs.Rules.{in_range_period}
use Rattle.plans.specs.declared.types.Placed.{Placed}
use Rattle.optimality.specs.Tests.{Laws}
use Rattle.planning.specs.Walk.{table_in, PutWell}
use Rattle.planning.proofs.Descent.{placed_few, spare_tried, in_range_lem, none_tried, sum_fits, dear_tried, whole_tried, goes_down}
use Rattle.planning.proofs.types.Search.descend.Given as given
use Rattle.planning.proofs.types.Search.descend.Goals as goal
use Rattle.planning.proofs.types.Search.descend.Goals.{After-put}

laws : (g : given.Over) (x : _) → Laws (g.C.CoreTest.accepts x) (g.C.CoreTest.limit x)
laws g x = record { lighter = g.met.C.CoreTest.lighter x; longer = g.met.C.CoreTest.longer x; fewer = g.met.C.CoreTest.fewer x }

pub returns-then-is_spare-clause-moves : goal.returns-then-is_spare-clause-moves
returns-then-is_spare-clause-moves g c =
    let s = c.args.self.now in
    (record { stands = spare_tried (laws g s.test.now) s s.table.now.table.rules c.requires (c.is_spare.ensures.0 c.if-is_spare.true); within = c.requires.within }, refl)

pub nonzero_div-weight : goal.nonzero_div-weight
nonzero_div-weight g c =
    let s = c.args.self.now in
    let x = c.index-tasks-len.result in
    let is = c.index-tasks-len.is ∙ ap (λ n. get_or c.tasks-tasks.result.now n x) c.len.ensures.value in
    in_range_period (task_of x) (in_range_lem (laws g s.test.now) s s.table.now.table.rules c.requires c.tasks-tasks.result.now c.tasks-tasks.ensures x is)

pub put-requires-clause-range : goal.put-requires-clause-range
put-requires-clause-range g c =
    let s = c.args.self.now in
    let x = c.index-tasks-len.result in
    let is = c.index-tasks-len.is ∙ ap (λ n. get_or c.tasks-tasks.result.now n x) c.len.ensures.value in
    in_range_lem (laws g s.test.now) s s.table.now.table.rules c.requires c.tasks-tasks.result.now c.tasks-tasks.ensures x is

module _ (g : given.Over) (c : After-put g) where
  -- the next task, and what put says of it
  is : c.index-tasks-len.result ≡ get_or c.tasks-tasks.result.now (length (list_of c.args.self.now.placed)) c.index-tasks-len.result
  is = c.index-tasks-len.is ∙ ap (λ n. get_or c.tasks-tasks.result.now n c.index-tasks-len.result) c.len.ensures.value

  well : (o : Option Placed) → c.put.result ≡ o
      → PutWell (g.C.CoreTest.accepts c.args.self.now.test.now) (g.C.CoreTest.limit c.args.self.now.test.now) (weight (table_in c.args.self.now) (task_of c.index-tasks-len.result)) (list_of c.args.self.now.placed) (task_of c.index-tasks-len.result) c.args.self.now.core o
  well o e =
      let s = c.args.self.now in
      let accepts = g.C.CoreTest.accepts s.test.now in
      let limit = g.C.CoreTest.limit s.test.now in
      let t = task_of c.index-tasks-len.result in
      subst (λ o. PutWell accepts limit (weight (table_in s) t) (list_of s.placed) t s.core o) e
      (subst (λ n. PutWell accepts limit (n / t.period) (list_of s.placed) t s.core c.put.result) s.spanned c.put.ensures)

pub returns-in_default-clause-moves : goal.returns-in_default-clause-moves
returns-in_default-clause-moves g c =
    let s = c.args.self.now in
    let at = (goal.at.returns-in_default-clause-moves g c).After-put in
    (record { stands = none_tried (laws g s.test.now) s s.table.now.table.rules c.requires c.tasks-tasks.result.now c.tasks-tasks.ensures c.index-tasks-len.result (is g at) (well g at None c.in_default.is); within = c.requires.within }, refl)

pub overflow_add-cost : goal.overflow_add-cost
overflow_add-cost g c =
    let s = c.args.self.now in
    let at = (goal.at.overflow_add-cost g c).After-put in
    omega (arith, sum_fits (laws g s.test.now) s s.table.now.table.rules c.requires c.tasks-tasks.result.now c.tasks-tasks.ensures c.index-tasks-len.result (is g at) c.in-Some.next (well g at (Some c.in-Some.next) c.in-Some.is))

pub returns-then-not-is_cheaper-clause-moves : goal.returns-then-not-is_cheaper-clause-moves
returns-then-not-is_cheaper-clause-moves g c =
    let s = c.args.self.now in
    let at = (goal.at.returns-then-not-is_cheaper-clause-moves g c).After-put in
    let dear = dear_tried (laws g s.test.now) s s.table.now.table.rules c.requires c.tasks-tasks.result.now c.tasks-tasks.ensures c.index-tasks-len.result (is g at) c.in-Some.next (well g at (Some c.in-Some.next) c.in-Some.is) in
    (record { stands = dear (sym c.is_cheaper.ensures ∙ c.if-not-is_cheaper.true); within = c.requires.within }, refl)

pub returns-then-len-tasks-clause-moves : goal.returns-then-len-tasks-clause-moves
returns-then-len-tasks-clause-moves g c =
    let s = c.args.self.now in
    let at = (goal.at.returns-then-len-tasks-clause-moves g c).After-put in
    let next = c.in-Some.next in
    let few = placed_few (laws g s.test.now) s s.table.now.table.rules c.requires in
    let grew = pushed (list_of s.placed) (list_of c.push.new.self) next 24 c.push.result c.push.ensures.ok c.push.ensures.variant few in
    let full : length (list_of s.placed) + 1 ≡ length c.tasks-tasks.result.now = omega (arith, c.len-2.ensures.value, c.if-len-tasks.true) in
    let tried = whole_tried (laws g s.test.now) s s.table.now.table.rules c.requires c.tasks-tasks.result.now c.tasks-tasks.ensures c.index-tasks-len.result (is g at) next (well g at (Some next) c.in-Some.is) (list_of c.push.new.self) grew in
    (record { stands = tried (sym c.is_cheaper.ensures ∙ c.if-not-is_cheaper.false) full (record { rows = c.rows_placed-rows.result; cost = s.cost + next.overhead }) c.rows_placed-rows.ensures refl; within = c.requires.within }, refl)

pub returns-clause-moves : goal.returns-clause-moves
returns-clause-moves g c =
    let s = c.args.self.now in
    let at = (goal.at.returns-clause-moves g c).After-put in
    let next = c.in-Some.next in
    let few = placed_few (laws g s.test.now) s s.table.now.table.rules c.requires in
    let grew = pushed (list_of s.placed) (list_of c.push-2.new.self) next 24 c.push-2.result c.push-2.ensures.ok c.push-2.ensures.variant few in
    let down = goes_down (laws g s.test.now) s s.table.now.table.rules c.requires c.tasks-tasks.result.now c.tasks-tasks.ensures c.index-tasks-len.result (is g at) next (well g at (Some next) c.in-Some.is) (list_of c.push-2.new.self) grew
    (λ e. c.if-len-tasks.false (omega (arith, e, c.len-2.ensures.value))) in
    (record { stands = down.0; within = omega (arith, c.requires.within, c.requires.stands.low) }, down.1)

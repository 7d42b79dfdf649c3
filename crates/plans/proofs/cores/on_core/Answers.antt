use Rattle.std.proofs.Common.{rules, ◌<◌, eqb, ◌++◌, length, map, filter, sym, ap, ◌∙◌, subst, arith}
use Rattle.std.specs.Slice.Iter.{iter_rest}
use Rattle.std.specs.Iterator.Adapters.{filter_source, filter_callee}
use Rattle.std.proofs.lemmas.Iterator.{YieldsList-from_slice}
use Rattle.std.proofs.lemmas.Iterator.Consumers.{YieldsList-from_filter}
use Rattle.bounded.specs.Lists.{list_of}
use Rattle.bounded.proofs.Pushed.{pushed}
use Rattle.plans.specs.Plans.{on_core}
use Rattle.plans.proofs.OnCore.{Collecting, collecting_room, collecting_more, collecting_end, on_filter, on_long}
use Rattle.plans.proofs.cores.on_core.Given as given
use Rattle.plans.proofs.cores.on_core.Goals as goal
use borrow.Author.Tests.{tests}

pub loop-placed-init : goal.loop-placed-init
loop-placed-init c =
    let all = c.args.all.now in
    let it = c.into_iter-placed-iterator.ensures.into_iter_gives in
    let items = c.filter-placed-items.ensures in
    let source = YieldsList-from_slice {s = filter_source c.into_iter-placed-iterator.result} all (ap (λ f. iter_rest (filter_source f)) it ∙ ap iter_rest items.source ∙ c.iter.ensures.rest) in
    record {
      left = filter (λ p. eqb p.row.core c.args.core) all;
      gives = (YieldsList-from_filter _ (λ p. eqb p.row.core c.args.core) source (ap filter_callee it ∙ items.closure) (λ x b q k. search (rules, tests))).runs;
      rest = ap (λ l. l ++ map (λ p. p.entry) (filter (λ p. eqb p.row.core c.args.core) all)) c.default-list.ensures ∙ on_filter c.args.core all;
    }

pub loop-placed-preserved : goal.loop-placed-preserved
loop-placed-preserved c =
    let done = list_of c.loop-placed.list in
    let at = c.loop-placed.placed-iterator in
    let next = c.next.new.self in
    let p = c.in-Some.placed in
    let room = collecting_room done at next c.loop-placed.invariant p c.in-Some.ensures.steps in
    let few : length done < 24 = omega (arith, room, on_long c.args.core c.args.all.now, c.requires) in
    let is = pushed done (list_of c.push.new.self) p.now.entry 24 c.push.result c.push.ensures.ok c.push.ensures.variant few in
    subst (λ l. Collecting given.iterator-loop-placed.next_gives (on_core c.args.core c.args.all.now) l next) (sym is) (collecting_more done at next c.loop-placed.invariant p c.in-Some.ensures.steps)

pub returns : goal.returns
returns c =
    let is = collecting_end (list_of c.loop-placed.list) c.loop-placed.placed-iterator c.next.new.self c.loop-placed.invariant c.in-None.ensures.steps in
    record { items = is; len = omega (arith, ap length is, on_long c.args.core c.args.all.now) }

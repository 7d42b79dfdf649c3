use Rattle.bounded.specs.Lists.{list_of}
use Rattle.plans.specs.Plans.{on_core}
use Rattle.plans.proofs.OnCore.{Collecting}
use Rattle.plans.proofs.cores.on_core.Given as goal

abbrev pub invariant-loop-placed : goal.invariant-loop-placed
invariant-loop-placed l = Collecting goal.iterator-loop-placed.next_gives (on_core l.fn.core l.fn.all) (list_of l.list) l.placed-iterator

use Rattle.std.specs.Slice.Iter.{iter_rest}
use Rattle.std.specs.Iterator.Adapters.{enumerate_source, enumerate_count, zip_first, zip_second}
use Rattle.bounded.specs.Lists.{list_of}
use Rattle.tasks.specs.Stored.{tasks_of}
use Rattle.tasks.specs.Tables.{sealed}
use Rattle.plans.specs.Plans.{rows_placed}
use Rattle.clearing.proofs.Regions.{RangedExamining}
use Rattle.clearing.proofs.examine.examine_regions.Given as goal

abbrev pub invariant-loop-i : goal.invariant-loop-i
invariant-loop-i g l = record {
  can : (goal.iterator-loop-i g).can_next l.i-iterator;
  finite : (goal.iterator-loop-i g).is_finite l.i-iterator;
  examining : RangedExamining (g.C.CoreTest.limit l.test) (sealed l.table) (rows_placed (list_of l.placed)) (list_of l.before) (enumerate_count l.i-iterator)
      (tasks_of (iter_rest (zip_first (enumerate_source l.i-iterator)))) (iter_rest (zip_second (enumerate_source l.i-iterator)));
}

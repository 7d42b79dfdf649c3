use Rattle.std.proofs.Common.{◌≡◌, ◌+◌}
use Rattle.std.specs.Slice.Iter.{iter_rest}
use Rattle.std.specs.Iterator.Adapters.{enumerate_source, enumerate_count, zip_first, zip_second}
use Rattle.tasks.specs.Stored.{tasks_of}
use Rattle.tasks.specs.Tables.{sealed}
use Rattle.clearing.specs.Refused.{row_refusal}
use Rattle.clearing.proofs.examine.examine_rows.Given as goal

-- what is left is refused as the whole is
abbrev pub invariant-loop-i : goal.invariant-loop-i
invariant-loop-i l = record {
  can : goal.iterator-loop-i.can_next l.i-iterator;
  finite : goal.iterator-loop-i.is_finite l.i-iterator;
  same : row_refusal (sealed l.table).cores (enumerate_count l.i-iterator + 1) (tasks_of (iter_rest (zip_first (enumerate_source l.i-iterator)))) (iter_rest (zip_second (enumerate_source l.i-iterator)))
      ≡ row_refusal (sealed l.table).cores 1 (sealed l.table).tasks l.rows;
}

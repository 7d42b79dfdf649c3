use Rattle.std.proofs.Common.{◌≡◌, ◌+◌, ◌*◌, ◌≤◌, ◌++◌, length}
use Rattle.std.specs.Slice.Iter.{iter_rest}
use Rattle.std.specs.Iterator.Adapters.{zip_first, zip_second}
use Rattle.tasks.specs.Stored.{task_of}
use Rattle.cuts.specs.Allowed.{flags_at}
use Rattle.writer.specs.Texts.{text_of}
use Rattle.plan_writer.specs.Lines.{cut_numbers}
use Rattle.plan_writer.proofs.plan_text.add_cuts.Given as goal

abbrev pub invariant-loop-point : goal.invariant-loop-point
invariant-loop-point l = record {
  can : goal.iterator-loop-point.can_next l.point-iterator;
  finite : goal.iterator-loop-point.is_finite l.point-iterator;
  text : text_of l.text ++ cut_numbers (zip_first l.point-iterator).start (iter_rest (zip_second l.point-iterator)) ≡ text_of l.initial.text ++ cut_numbers 1 (flags_at (task_of l.task).points l.row.cuts);
  room : length (text_of l.text) + 21 * length (iter_rest (zip_second l.point-iterator)) ≤ length (text_of l.initial.text) + 315;
  few : (zip_first l.point-iterator).start + length (iter_rest (zip_second l.point-iterator)) ≤ 16;
}

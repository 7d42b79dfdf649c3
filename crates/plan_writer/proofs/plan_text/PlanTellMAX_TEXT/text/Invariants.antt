use Rattle.std.proofs.Common.{◌≡◌, ◌+◌, ◌*◌, ◌≤◌, ◌++◌, length}
use Rattle.std.specs.Slice.Iter.{iter_rest}
use Rattle.std.specs.Iterator.Adapters.{zip_first, zip_second}
use Rattle.tasks.specs.Stored.{tasks_of}
use Rattle.clearing.specs.Clearing.{table_in, rows_in}
use Rattle.writer.specs.Texts.{text_of}
use Rattle.plan_writer.specs.Lines.{row_lines, plan_text}
use Rattle.plan_writer.proofs.plan_text.PlanTellMAX_TEXT.text.Given as goal

abbrev pub invariant-loop-task : goal.invariant-loop-task
invariant-loop-task l = record {
  can : goal.iterator-loop-task.can_next l.task-iterator;
  finite : goal.iterator-loop-task.is_finite l.task-iterator;
  text : text_of l.text ++ row_lines (tasks_of (iter_rest (zip_first l.task-iterator))) (iter_rest (zip_second l.task-iterator)) ≡ plan_text (table_in l.self.0.now) (rows_in l.self.0.now);
  room : length (text_of l.text) + 374 * length (iter_rest (zip_first l.task-iterator)) ≤ 9216;
}

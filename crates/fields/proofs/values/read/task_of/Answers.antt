use Rattle.std.proofs.Common.{sym, ◌∙◌}
use Rattle.fields.proofs.Lines.{task_word, task_period, task_deadline, task_blocks, task_points, task_end, task_took}
use Rattle.fields.proofs.values.read.task_of.Goals as goal

pub returns-in_err-opens : goal.returns-in_err-opens
returns-in_err-opens c = rw c.from_residual.ensures (task_word _ (λ t h e. c.in_err-opens.ensures t h (c.new-fields.ensures ∙ e)))

pub returns-in_err-period : goal.returns-in_err-period
returns-in_err-period c =
    rw c.from_residual-in_err-period.ensures (task_period _ _ (sym c.new-fields.ensures ∙ c.in_ok-opens.ensures) _ _ c.in_ok-id.ensures c.in_err-period.ensures)

pub returns-in_err-deadline : goal.returns-in_err-deadline
returns-in_err-deadline c =
    rw c.from_residual-in_err-deadline.ensures
    (task_deadline _ _ (sym c.new-fields.ensures ∙ c.in_ok-opens.ensures) _ _ c.in_ok-id.ensures _ _ c.in_ok-period.ensures c.in_err-deadline.ensures)

pub returns-in_err-blocks : goal.returns-in_err-blocks
returns-in_err-blocks c =
    rw c.from_residual-in_err-blocks.ensures
    (task_blocks _ _ (sym c.new-fields.ensures ∙ c.in_ok-opens.ensures) _ _ c.in_ok-id.ensures _ _ c.in_ok-period.ensures _ _ c.in_ok-deadline.ensures c.in_err-blocks.ensures)

pub returns-in_err-points : goal.returns-in_err-points
returns-in_err-points c =
    rw c.from_residual-in_err-points.ensures
    (task_points _ _ (sym c.new-fields.ensures ∙ c.in_ok-opens.ensures) _ _ c.in_ok-id.ensures _ _ c.in_ok-period.ensures _ _ c.in_ok-deadline.ensures _ _ c.in_ok-blocks.ensures c.in_err-points.ensures)

pub returns-in_err-ends : goal.returns-in_err-ends
returns-in_err-ends c =
    rw c.from_residual-in_err-ends.ensures
    (task_end _ _ (sym c.new-fields.ensures ∙ c.in_ok-opens.ensures) _ _ c.in_ok-id.ensures _ _ c.in_ok-period.ensures _ _ c.in_ok-deadline.ensures _ _ c.in_ok-blocks.ensures _ _ c.in_ok-points.ensures c.in_err-ends.ensures)

pub returns : goal.returns
returns c =
    task_took _ _ (sym c.new-fields.ensures ∙ c.in_ok-opens.ensures) _ _ c.in_ok-id.ensures _ _ c.in_ok-period.ensures _ _ c.in_ok-deadline.ensures _ _ c.in_ok-blocks.ensures _ _ c.in_ok-points.ensures
    c.in_ok-ends.ensures

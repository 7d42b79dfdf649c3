use Rattle.std.proofs.Common.{◌≡◌, refl, subst, rules}
use Rattle.std.proofs.lemmas.Result.{err_from_is_err_and}
use Rattle.tasks.specs.declared.refusal.Refusal.TheVariants.{WrongFields}
use Rattle.fields.specs.Values.{TaskOf}
use Rattle.sheet.proofs.Stepping.{task_steps, task_misshapen}
use Rattle.sheet.proofs.reading.read_task.Goals as goal

pub returns-in_err-task : goal.returns-in_err-task
returns-in_err-task c =
    let p = err_from_is_err_and c.from_residual-in_err-task.result c.from_residual-in_err-task.ensures.1 in
    let told : c.in_err-task.field-0.0 ≡ WrongFields c.in_ok-line.line.at = search rules in
    let d = c.args.draft.now in
    rw (p.1, p.2, told) (refl, task_misshapen c.args.reader.now c.read_line.new.self c.in_ok-line.line c.in_ok-line.ensures d d (subst (TaskOf c.in_ok-line.line.bytes.now) c.in_err-task.ensures.ok_part c.task_of.ensures))

pub returns : goal.returns
returns c =
    task_steps c.args.reader.now c.read_line.new.self c.in_ok-line.line c.in_ok-line.ensures c.args.draft.now c.add_at.new.self c.in_ok-task.task c.add_at.result (subst (TaskOf c.in_ok-line.line.bytes.now) c.in_ok-task.ensures.ok_part c.task_of.ensures) (rw c.from-proposal.ensures at c.add_at.ensures)

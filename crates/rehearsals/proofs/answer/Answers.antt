use Rattle.std.proofs.Common.{refl, inl, inr}
use Rattle.clearing.specs.Clearing.{table_in, rows_in}
use Rattle.writer.specs.Lines.{refusal_line}
use Rattle.writer.proofs.Written.{written_only}
use Rattle.plan_writer.specs.Lines.{plan_text}
use Rattle.rehearsals.specs.Answers.{TextFor}
use Rattle.rehearsals.proofs.Told.{one_text}
use Rattle.rehearsals.proofs.answer.Goals as goal

pub returns-in-Ok : goal.returns-in-Ok
returns-in-Ok c =
    let bs = c.args.sheet.now in
    let plan = c.plan_sheet.new.cleared in
    let made = c.in-Ok.ensures in
    written_only (TextFor bs) (one_text bs) (plan_text (table_in plan) (rows_in plan)) _ _ _ (inl (table_in plan, rows_in plan, made.0, made.1, refl)) c.write_plan.ensures

pub returns-in-Err : goal.returns-in-Err
returns-in-Err c =
    let bs = c.args.sheet.now in
    let y = c.in-Err.refusal in
    written_only (TextFor bs) (one_text bs) (refusal_line y) _ _ _ (inr (y, c.in-Err.ensures.0, refl)) c.write.ensures

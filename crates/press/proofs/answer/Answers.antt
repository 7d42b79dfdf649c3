use Rattle.std.proofs.Common.{◌≡◌, refl, ap, inl, inr, ⊎_elim}
use Rattle.tasks.specs.Tables.{drafted, sealed}
use Rattle.sheet.specs.Lines.{FirstRefused}
use Rattle.sheet.specs.Sheets.{RefusedAfter, SheetRefused}
use Rattle.writer.specs.Lines.{table_line, refusal_line}
use Rattle.writer.proofs.Written.{written_only}
use Rattle.press.specs.Answers.{LineFor}
use Rattle.press.proofs.Told.{one_line}
use Rattle.press.proofs.answer.Goals as goal

pub returns-in-Ok : goal.returns-in-Ok
returns-in-Ok c =
    let bs = c.args.sheet.now in
    written_only (LineFor bs) (one_line bs) (table_line (sealed c.seal.result)) _ _ _ (inl (drafted c.read_sheet.new.draft, c.in-Ok.ensures, ap table_line c.seal.ensures)) c.write.ensures

pub returns-in-Err : goal.returns-in-Err
returns-in-Err c =
    let bs = c.args.sheet.now in
    let y = c.in-Err.refusal in
    let draft = c.read_sheet.new.draft in
    let refused : SheetRefused bs y = ⊎_elim (λ (h : (draft ≡ c.new-draft.result) × FirstRefused 0 bs y). inl h.1) (λ (h : RefusedAfter bs (drafted draft) y). inr (drafted draft, h)) c.in-Err.ensures in
    written_only (LineFor bs) (one_line bs) (refusal_line y) _ _ _ (inr (y, refused, refl)) c.write-in-Err.ensures

use Rattle.std.proofs.Common.{[], sym, refl, subst, inl}
use Rattle.std.proofs.lemmas.Result.{err_from_is_err_and}
use Rattle.tasks.specs.Tables.{sealed}
use Rattle.sheet.specs.Sheets.{Granted}
use Rattle.rehearsals.proofs.Sheets.{planned_sheet, refused_sheet}
use Rattle.rehearsals.proofs.plan_sheet.Goals as goal

pub returns-in_err-read_sheet : goal.returns-in_err-read_sheet
returns-in_err-read_sheet c =
    let p = err_from_is_err_and c.from_residual.result c.from_residual.ensures.1 in
    rw (p.1, p.2) (inl (refused_sheet c.args.sheet.now c.new-draft.result c.read_sheet.new.draft _ c.in_err-read_sheet.ensures), refl)

pub returns : goal.returns
returns c =
    planned_sheet c.args.sheet.now (sealed c.seal.result) c.args.cleared.now c.plan_and_clear.new.cleared c.plan_and_clear.result
    (subst (λ t. Granted c.args.sheet.now t []) (sym c.seal.ensures) c.in_ok-read_sheet.ensures) c.plan_and_clear.ensures

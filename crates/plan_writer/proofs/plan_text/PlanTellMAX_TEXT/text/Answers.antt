use Rattle.std.proofs.Common.{◌++◌, None, sym, refl, ap, ◌∙◌}
use Rattle.std.specs.Slice.Iter.{iter_rest}
use Rattle.std.specs.Iterator.Adapters.{zip_first, zip_second}
use Rattle.std.proofs.lemmas.List.{append-nil}
use Rattle.std.proofs.lemmas.Slice.Zip.{either_empty_from_Zip}
use Rattle.writer.specs.Texts.{text_of}
use Rattle.plan_writer.proofs.PlanTexts.{no_lines}
use Rattle.plan_writer.proofs.plan_text.PlanTellMAX_TEXT.text.Goals as goal

pub returns : goal.returns
returns c =
    let text = text_of c.loop-task.text in
    let it = c.loop-task.task-iterator in
    let none = no_lines (iter_rest (zip_first it)) (iter_rest (zip_second it)) (either_empty_from_Zip it c.next.new.self None refl c.in-None.ensures.steps) in
    sym (append-nil text) ∙ ap (λ l. text ++ l) (sym none) ∙ c.loop-task.invariant.text

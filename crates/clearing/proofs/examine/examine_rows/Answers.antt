use Rattle.std.proofs.Common.{◌≡◌, ◌+◌, length, None, sym, refl, ap, ◌∙◌, inl, inr, ⊎_elim}
use Rattle.std.specs.Slice.Iter.{iter_rest}
use Rattle.std.specs.Iterator.Adapters.{enumerate_source, enumerate_count, zip_first, zip_second}
use Rattle.std.proofs.lemmas.Slice.Zip.{either_empty_from_Zip}
use Rattle.tasks.specs.Stored.{tasks_of}
use Rattle.tasks.specs.Tables.{sealed}
use Rattle.tasks.proofs.Order.{length_stored}
use Rattle.clearing.proofs.Rows.{no_refusal, rows_counted}
use Rattle.clearing.proofs.examine.examine_rows.Goals as goal

pub returns : goal.returns
returns c =
    let it = c.loop-i.i-iterator in
    let table = sealed c.args.table.now in
    let source = enumerate_source it in
    let ended = either_empty_from_Zip source (enumerate_source c.next.new.self) None refl c.in-None.ensures.steps.0 in
    let none = no_refusal table.cores (enumerate_count it + 1) (tasks_of (iter_rest (zip_first source))) (iter_rest (zip_second source)) (⊎_elim (λ e. inl (ap tasks_of e)) (λ e. inr e) ended) in
    let long : length c.args.rows.now ≡ length table.tasks = c.if-rows-tasks.false ∙ sym (length_stored c.tasks-tasks.result.now) ∙ ap length c.tasks-tasks.ensures in
    sym none ∙ c.loop-i.invariant.same ∙ sym (rows_counted table c.args.rows.now long)

use Rattle.std.proofs.Common.{sym, subst}
use Rattle.std.specs.Iterator.Adapters.{zip_first, zip_second}
use Rattle.std.specs.Slice.Iter.{iter_rest}
use Rattle.tasks.specs.Stored.{task_of}
use Rattle.cuts.specs.Regions.{Fits}
use Rattle.cuts.proofs.Walk.{fits_first}
use Rattle.cuts.proofs.regions.Regions.new.Goals as goal

pub invariant_of-result : goal.invariant_of-result
invariant_of-result c =
    let t = task_of c.args.task.now in
    let gaps = c.zip-2.result in
    let bs = iter_rest (zip_first (zip_first gaps)) in
    let ps = iter_rest (zip_second (zip_first gaps)) in
    let fs = iter_rest (zip_second gaps) in
    record { fits = subst (λ o. Fits o bs ps fs) (sym c.copied.ensures) (fits_first t _ c.next.result _ _ bs ps fs c.requires (cc) c.next.ensures.steps (cc) (cc) (cc)) }

use Rattle.std.proofs.Common.{length, sym, ◌∙◌, rules, tests}
use Rattle.std.proofs.lemmas.Iterator.{YieldsList-from_slice}
use Rattle.std.proofs.lemmas.Iterator.Adapters.{YieldsList-from_skip}
use Rattle.std.proofs.lemmas.Iterator.Search.{any_from_yields_List}
use Rattle.tasks.specs.Stored.{task_of}
use Rattle.cuts.proofs.Steps.{beyond_any}
use Rattle.cuts.proofs.flags.has_cut_beyond.Goals as goal

pub returns : goal.returns
returns c =
    let ps = (task_of c.args.task.now).points in
    let fs = c.args.cuts.now in
    any_from_yields_List (λ f. f) _ _ _ c.any.ensures.ran (YieldsList-from_skip (length ps) (YieldsList-from_slice fs (cc)) (cc)) (λ x b q k. search (rules, tests))
    ∙ sym (beyond_any ps fs)

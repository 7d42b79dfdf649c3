use Rattle.std.proofs.Common.{length, is_some, subst, sym, ◌∙◌, refl, arith, rules, tests}
use Rattle.std.proofs.lemmas.Iterator.{YieldsList-from_range}
use Rattle.std.proofs.lemmas.Iterator.Search.{all_from_yields_List}
use Rattle.coretests.specs.FixedPriority.{FixedAccepts}
use Rattle.coretests.specs.Tolerances.{tolerance_of}
use Rattle.coretests.proofs.Found.{all_is}
use Rattle.coretests.proofs.fixed_priority.FixedPriorityCoreTest.holds.Goals as goal

pub returns : goal.returns
returns c =
    let list = c.in-Some.list in
    let xs = list.entries.now in
    let all = all_from_yields_List (λ k. is_some (tolerance_of xs k)) _ _ c.all.result c.all.ensures.ran (YieldsList-from_range 0 (length xs) (length xs) refl (omega arith)) (λ x b q k. search (rules, tests)) ∙ all_is xs in
    (λ e. subst FixedAccepts c.in-Some.ensures (list.sound, sym all ∙ e), λ m. all ∙ (subst FixedAccepts (sym c.in-Some.ensures) m).1)

use Rattle.std.proofs.Common.{[], length, unwrap_or, sym, ap, ◌∙◌, refl, arith, rules}
use Rattle.std.proofs.lemmas.Iterator.{YieldsList-from_range, YieldsList-from_map}
use Rattle.std.proofs.lemmas.Iterator.Consumers.{YieldsList-at, min_from_yields_List}
use Rattle.std.proofs.lemmas.Iterator.Adapters.{option_map_id}
use Rattle.coretests.specs.FixedPriority.{least_tolerance}
use Rattle.coretests.specs.Guard.{guard_open}
use Rattle.coretests.specs.Tolerances.{tolerance_of}
use Rattle.coretests.proofs.Found.{least_is}
use Rattle.coretests.proofs.fixed_priority.FixedPriorityCoreTest.longest.Goals as goal

pub returns : goal.returns
returns c =
    let xs = c.in-Some.list.entries.now in
    let a = c.in-Some.ensures in
    sym (option_map_id c.min.result)
    ∙ min_from_yields_List c.map.result c.min.result c.min.ensures.ran (YieldsList-from_map _ (λ k. unwrap_or (tolerance_of xs k) 0) (YieldsList-at c.map.ensures.source (YieldsList-from_range 0 (length xs) (length xs) refl (omega arith))) c.map.ensures.closure (λ x r q k. search rules))
    ∙ least_is xs
    ∙ ap (least_tolerance []) a.1
    ∙ sym (guard_open c.args.list.now c.args.d (least_tolerance [] c.args.list.now) a.0)

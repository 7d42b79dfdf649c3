use Rattle.std.proofs.Common.{rules, tests}
use Rattle.std.proofs.lemmas.Iterator.{YieldsList-from_slice}
use Rattle.std.proofs.lemmas.Iterator.Consumers.{YieldsList-at, YieldsList-from_enumerate, YieldsList-from_filter}
use Rattle.machine.specs.Slots.{ready_on}
use Rattle.cabinet.proofs.Chosen.{least_due, chosen}
use Rattle.cabinet.proofs.records.choose.Goals as goal

pub returns : goal.returns
returns c =
    chosen (λ x. (x.0, x.1.now)) c.args.core c.args.slots.now c.min_by_key.result c.map.result
    (least_due (λ x. (x.0, x.1.now)) _ _ (λ x k q h. search (rules, tests)) c.min_by_key.result c.min_by_key.ensures.ran
    (YieldsList-from_filter _ (λ x. ready_on c.args.core x.1)
    (YieldsList-at c.filter.ensures.source (YieldsList-from_enumerate (YieldsList-at c.enumerate.ensures.source (YieldsList-from_slice c.args.slots.now cc)) c.enumerate.ensures.count))
    c.filter.ensures.closure (λ x r q k. search (rules, tests))))
    (search rules)

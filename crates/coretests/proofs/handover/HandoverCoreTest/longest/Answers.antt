use Rattle.std.proofs.Common.{List, None, Some, ap, ◌∙◌}
use Rattle.coretests.specs.declared.entry.Entry.{Entry}
use Rattle.coretests.specs.Handovers.{handed_is}
use Rattle.coretests.proofs.handover.HandoverCoreTest.longest.Goals as goal

pub returns-in_err-limit : goal.returns-in_err-limit
returns-in_err-limit g c =
    let s = c.args.self.now in
    let list = c.in-Some.list in
    let below = λ (ys : List Entry). g.C.CoreTest.limit s.below ys c.args.d in
    c.from_residual.ensures
    ∙ handed_is s.h below c.args.list.now list.entries.now c.as_slice.result.now None list.sound c.in-Some.ensures (c.as_slice.ensures.value ∙ c.raised-raised.ensures) c.in_err-limit.ensures

pub returns : goal.returns
returns g c =
    let s = c.args.self.now in
    let list = c.in-Some.list in
    let below = λ (ys : List Entry). g.C.CoreTest.limit s.below ys c.args.d in
    ap Some c.saturating_sub.ensures
    ∙ handed_is s.h below c.args.list.now list.entries.now c.as_slice.result.now (Some c.in_ok-limit.limit) list.sound c.in-Some.ensures (c.as_slice.ensures.value ∙ c.raised-raised.ensures) c.in_ok-limit.ensures

use Rattle.std.proofs.Common.{ap, arith}
use Rattle.coretests.specs.Soundness.{in_range_at, blank}
use Rattle.coretests.proofs.EdfSteps.{slack_start}
use Rattle.coretests.proofs.edf.EdfCoreTest.longest.Goals as goal

pub loop-best-init : goal.loop-best-init
loop-best-init c =
    let a = c.in-Some.ensures in
    let list = c.in-Some.list in
    let item = c.in_ok-first.ensures.item.3 in
    let is = ap (λ e. e.deadline) (item.1 blank) in
    let low = in_range_at list.entries.now 0 list.sound item.0 in (
      omega (arith, low.deadline_low),
      slack_start c.args.list.now list.entries.now c.args.d _ c.slack-best.result c.last_tight-t.result a.0 a.1 item.0 is (omega arith) c.slack-best.ensures c.last_tight-t.ensures.within c.last_tight-t.ensures.past,
    )

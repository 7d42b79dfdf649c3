use Rattle.std.proofs.Common.{◌≡◌, ◌+◌, ◌<◌, map, length, get_or, drop, sym, ap, ◌∙◌, arith}
use Rattle.std.proofs.lemmas.Grind.{common_steps}
use Rattle.std.proofs.lemmas.List.{length-map, get_or-map}
use Rattle.std.proofs.lemmas.List.Elements.{All-more}
use Rattle.span.specs.Spans.{lcm_of, span_from}
use Rattle.span.proofs.Multiples.{span_is, lcm_some}
use Rattle.span.proofs.Running.{span_next, span_over, span_all}
use Rattle.span.proofs.span_of.Goals as goal

pub loop-item-init : goal.loop-item-init
loop-item-init g c = grind (arith, common_steps, span_is)

pub returns-in_err-span : goal.returns-in_err-span
returns-in_err-span g c = grind (arith, common_steps, span_over (map g.T.Periodic.period_of c.args.items.now) c.loop-item.item-index c.loop-item.span)

pub loop-item-preserved : goal.loop-item-preserved
loop-item-preserved g c =
    let ps = map g.T.Periodic.period_of c.args.items.now in
    let i = c.loop-item.item-index in
    let long = length-map c.args.items.now g.T.Periodic.period_of in
    let within : i < length ps = omega arith in
    let here : c.period-period.result ≡ get_or ps i 0 = c.period-period.ensures ∙ ap g.T.Periodic.period_of c.item-item.is ∙ sym (get_or-map g.T.Periodic.period_of c.args.items.now i c.item-item.result 0 (omega arith)) in
    let some : 0 < get_or ps i 0 = omega (arith, here, c.if-period-eq0.false) in
    let joined = c.in_ok-span.ensures in
    let is : c.in_ok-span.span ≡ lcm_of c.loop-item.span (get_or ps i 0) = joined.0 ∙ ap (lcm_of c.loop-item.span) here in (
      omega (arith, is, lcm_some c.loop-item.span (get_or ps i 0) some c.loop-item.invariant.0),
      joined.1,
      All-more (λ p. 0 < p) ps i 0 within c.loop-item.invariant.2 some,
      ap (λ m. span_from m (drop (i + 1) ps)) is ∙ span_next ps i c.loop-item.span within ∙ c.loop-item.invariant.3,
    )

pub returns : goal.returns
returns g c =
    span_all (map g.T.Periodic.period_of c.args.items.now) c.loop-item.item-index c.loop-item.span (omega (arith, length-map c.args.items.now g.T.Periodic.period_of)) c.loop-item.invariant.1 c.loop-item.invariant.2
    c.loop-item.invariant.3

use Rattle.std.proofs.Common.{◌≡◌, ◌<◌, ◌≤◌, map, take, drop}
use Rattle.std.specs.List.{All}
use Rattle.span.specs.Spans.{span_from, span_of}
use Rattle.span.proofs.span_of.Given as goal

-- what is left to join gives the span, and the periods so far are above 0
abbrev pub invariant-loop-item : goal.invariant-loop-item
invariant-loop-item g l =
    (0 < l.span) × (l.span ≤ 1000000) × All (λ p. 0 < p) (take l.item-index (map g.T.Periodic.period_of l.items))
    × (span_from l.span (drop l.item-index (map g.T.Periodic.period_of l.items)) ≡ span_of (map g.T.Periodic.period_of l.items))

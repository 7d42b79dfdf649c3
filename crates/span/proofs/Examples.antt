-- Spans of written lists are computed. Assumes nothing.
use Rattle.std.proofs.Common.{◌≡◌, [], ◌∷◌, refl}
use Rattle.span.specs.Spans.{gcd_by, gcd_of, lcm_of, span_from, span_of}

short : span_of (1500 ∷ 6000 ∷ 1500 ∷ 1500 ∷ []) ≡ 6000
unfolding span_of span_from lcm_of gcd_of gcd_by
short = refl

long : span_of (1000000 ∷ 999999 ∷ []) ≡ 999999000000
unfolding span_of span_from lcm_of gcd_of gcd_by
long = refl

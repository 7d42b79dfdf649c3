-- What an answer says to a caller, and that there is one answer. Assumes nothing.
use Rattle.std.proofs.Common.{◌≡◌, ℕ, ◌<◌, List, Some, None, Option, sym, refl, ap, ◌∙◌, ⊎_elim, arith}
use Rattle.std.specs.List.{Contains}
use Rattle.std.proofs.lemmas.List.Elements.{All-from_recursion, All-contains}
use Rattle.span.specs.Spans.{span_of, Positive, SpanWithin}

-- periods above 0 have no answer only where their span is above a million
pub none_above : (ps : List ℕ) → Positive ps → SpanWithin ps None → 1000000 < span_of ps
none_above ps all h = ⊎_elim (λ (z : Contains ps 0). absurd (omega (arith, All-contains (λ p. 0 < p) ps 0 (All-from_recursion (λ p. 0 < p) ps all) z))) (λ (l : 1000000 < span_of ps). l) h

pub one_answer : (ps : List ℕ) (r s : Option ℕ) → SpanWithin ps r → SpanWithin ps s → r ≡ s
one_answer ps None None a b = refl
one_answer ps None (Some n) a b = absurd (omega (arith, none_above ps b.positive a))
one_answer ps (Some m) None a b = absurd (omega (arith, none_above ps a.positive b))
one_answer ps (Some m) (Some n) a b = ap Some (a.is ∙ sym b.is)

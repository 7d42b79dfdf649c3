use Rattle.std.proofs.Common.{◌≡◌, true, false, refl, rules}
use Rattle.reader.specs.declared.reader.Token.{Token}
use Rattle.reader.specs.declared.reader.Token.TheVariants as tokens
use Rattle.fields.specs.Pieces.{IsMark}
use Rattle.fields.proofs.Tokens.{mark_passed}
use Rattle.fields.proofs.values.read.Fields.mark.Goals as goal
use Rattle.fields.proofs.values.read.Fields.mark.Goals.{After-then_some}

same : (c : After-then_some) (w : Token) → c.args.wanted ≡ w → IsMark w → c.eq.result ≡ true → c.in_ok-token.field-0 ≡ w
same c tokens.Open w m r = search rules
same c k w m r = search rules

other : (c : After-then_some) (w : Token) → c.args.wanted ≡ w → IsMark w → c.eq.result ≡ false → c.in_ok-token.field-0 ≡ w → ⊥
other c tokens.Open w m r e = search rules
other c k w m r e = search rules

pub returns : goal.returns
returns c =
    let at = (goal.at.returns c).After-then_some in
    rw c.then_some.ensures (mark_passed c.in_ok-token.ensures c.args.wanted c.requires c.eq.result (same at c.args.wanted refl c.requires) (other at c.args.wanted refl c.requires))

use Rattle.std.proofs.Common.{◌≡◌, ℕ, ◌≤◌, cond, ltb, take, length, Some, None, Option, unwrap_or, refl, ap, arith}
use Rattle.std.specs.List.{position_or_len}
use Rattle.std.proofs.lemmas.Bool.Decides.{nat_tests}
use Rattle.std.proofs.lemmas.Fn.{says_at}
use Rattle.std.proofs.lemmas.Iterator.{YieldsList-from_slice}
use Rattle.std.proofs.lemmas.Iterator.Search.{position_from_yields_List}
use Rattle.std.proofs.lemmas.List.Sums.{prefix_len-le-length}
use Rattle.reader.proofs.reader.tokens.front.Goals as goal

front_len : (r i n : ℕ) (o : Option ℕ) → i ≤ n → o ≡ cond (ltb i n) (Some i) None → r ≡ unwrap_or o n → r ≡ i
front_len r i n o h e u = grind (arith, nat_tests)

pub returns-clause-value : goal.returns-clause-value
returns-clause-value g c = λ p says.
    let bs = c.args.bytes.now in
    let len : c.unwrap_or-len.result ≡ position_or_len p bs = front_len c.unwrap_or-len.result (position_or_len p bs) (length bs) c.position.result (prefix_len-le-length _ bs) (position_from_yields_List p _ _ _ c.position.ensures.ran (YieldsList-from_slice bs cc) (λ x b q k. (g.met.F.Fn.1.step_stays c.args.test (x, tt) b q k, says x.now b (says_at g.F.Fn ((g.met.F.FnMut.1.post_iff c.args.test (x, tt) b).1 (q, k)) refl)))) c.unwrap_or-len.ensures in
    ap (λ n. take n bs) len

use Rattle.std.proofs.Common.{rules, ◌≡◌, not, eqb, [], Decides, ◌∙◌, sym, subst}
use Rattle.std.specs.List.{list_any}
use Rattle.std.proofs.lemmas.Iterator.{YieldsList-from_slice}
use Rattle.std.proofs.lemmas.Iterator.Search.{any_from_yields_List}
use borrow.Author.Tests.{tests}
use Rattle.plans.specs.Plans.{on_core}
use Rattle.plans.proofs.OnCore.{idle_none}
use Rattle.plans.proofs.cores.is_idle.Goals as goal

pub returns : goal.returns
returns c =
    let all = c.args.all.now in
    let source = YieldsList-from_slice {s = c.iter.result} all c.iter.ensures.rest in
    let told : c.any.result ≡ list_any (λ p. eqb p.row.core c.args.core) all = any_from_yields_List (λ p. eqb p.row.core c.args.core) _ _ c.any.result c.any.ensures.ran source (λ x b q k. search (rules, tests)) in
    subst (λ b. Decides (not b) (on_core c.args.core all ≡ [])) (sym told) (idle_none c.args.core all)

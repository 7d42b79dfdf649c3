use Rattle.coretests.specs.Edf.{EdfAccepts, edf_limit}
use Rattle.optimality.proofs.Pile.{lawful_under}
use Rattle.optimality.proofs.pile_plans_are_lawful.Goals as goal

pub returns : goal.returns
returns g c =
    let x = c.args.pile.now in
    lawful_under (g.P.CoreTest.accepts x) EdfAccepts (g.P.CoreTest.limit x) edf_limit (g.met.P.EdfPile.no_laxer x) (g.met.P.EdfPile.no_longer x)

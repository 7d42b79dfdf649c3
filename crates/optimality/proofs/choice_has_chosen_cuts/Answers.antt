use Rattle.optimality.proofs.Rows.{choice_has_chosen_cuts_lem}
use Rattle.optimality.proofs.choice_has_chosen_cuts.Goals as goal

pub returns : goal.returns
returns g c =
    let x = c.args.test.now in
    choice_has_chosen_cuts_lem {accepts = g.C.CoreTest.accepts x} {limit = g.C.CoreTest.limit x}
    (record { lighter = g.met.C.CoreTest.lighter x; longer = g.met.C.CoreTest.longer x; fewer = g.met.C.CoreTest.fewer x })

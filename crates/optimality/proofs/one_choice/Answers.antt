use Rattle.optimality.proofs.Unique.{one_choice_lem}
use Rattle.optimality.proofs.one_choice.Goals as goal

pub returns : goal.returns
returns g c = one_choice_lem (g.C.CoreTest.accepts c.args.test.now) (g.C.CoreTest.limit c.args.test.now)

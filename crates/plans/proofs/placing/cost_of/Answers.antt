use Rattle.std.proofs.Common.{rules, ◌≡◌, ◌<◌, ◌∙◌, ap, sym, arith}
use Rattle.std.proofs.iter.runs.Made.{chains}
use Rattle.bounded.specs.Lists.{list_of}
use Rattle.tasks.specs.Tables.{sealed}
use Rattle.plans.specs.Plans.{cost}
use Rattle.plans.proofs.Costs.{overheads, cost-places, plan_cost_small}
use Rattle.plans.proofs.placing.cost_of.Goals as goal
use Rattle.plans.proofs.placing.cost_of.Goals.{After-place_all}

-- the overheads of the places are the cost of the plan
priced : (c : After-place_all) → overheads (list_of c.place_all.result) ≡ cost (sealed c.args.table.now) c.args.rows.now
priced c = let table = sealed c.args.table.now in ap overheads c.place_all.ensures ∙ sym (cost-places table table.tasks c.args.rows.now)

pub sum-requires-clause-fits : goal.sum-requires-clause-fits
sum-requires-clause-fits c =
    let at = (goal.at.sum-requires-clause-fits c).After-place_all in
    let small : overheads c.as_slice.result.now < 18446744073709551616 = omega (arith, ap overheads c.as_slice.ensures.value, priced at, (plan_cost_small (sealed c.args.table.now) c.args.table.now.table.rules c.args.rows.now).1) in
    search (rules, chains, small)

pub returns : goal.returns
returns c =
    let at = (goal.at.returns c).After-place_all in
    let told : c.sum.result ≡ overheads (list_of c.place_all.result) = search (rules, chains) in
    record {
      value = told ∙ priced at;
      bound = omega (arith, told, priced at, (plan_cost_small (sealed c.args.table.now) c.args.table.now.table.rules c.args.rows.now).1);
    }

use Rattle.std.proofs.Common.{◌+◌, arith}
use Rattle.coretests.proofs.EdfSteps.{demand_next, demand_part, demand-none}
use Rattle.coretests.proofs.sound_list.SoundList.demand_within.Goals as goal

pub loop-e-init : goal.loop-e-init
loop-e-init c = omega (arith, demand-none c.args.t)

pub returns-in_err-left : goal.returns-in_err-left
returns-in_err-left c =
    let xs = c.args.self.now.entries.now in
    let i = c.loop-e.e-index in
    let over = c.in_err-left.ensures in
    rw c.from_residual.ensures (omega (arith, over, demand_next xs c.args.t i c.loop-e-test.true, demand_part xs c.args.t (i + 1)))

use Rattle.std.proofs.Common.{◌+◌, arith, take, slice_index_or}
use Rattle.coretests.specs.Soundness.{blank}
use Rattle.coretests.specs.Tolerances.{workload-none, workload_next, workload_part}
use Rattle.coretests.proofs.sound_list.SoundList.workload_within.Goals as goal

pub returns-in_err-left : goal.returns-in_err-left
returns-in_err-left c =
    let xs = c.args.self.now.entries.now in
    let front = take c.args.k xs in
    let e = slice_index_or xs c.args.k blank in
    let over = c.in_err-left.ensures in
    rw c.from_residual.ensures (omega (arith, over, workload-none front e c.args.t, workload_part front e c.args.t 0))

pub loop-x-init : goal.loop-x-init
loop-x-init c =
    let xs = c.args.self.now.entries.now in
    omega (arith, c.in_ok-left.ensures, workload-none (take c.args.k xs) (slice_index_or xs c.args.k blank) c.args.t)

pub returns-in_err-left-2 : goal.returns-in_err-left-2
returns-in_err-left-2 c =
    let xs = c.args.self.now.entries.now in
    let front = take c.args.k xs in
    let e = slice_index_or xs c.args.k blank in
    let i = c.loop-x.x-index in
    let over = c.in_err-left-2.ensures in
    rw c.from_residual-in_err-left-2.ensures (omega (arith, over, workload_next front e c.args.t i c.loop-x-test.true, workload_part front e c.args.t (i + 1)))

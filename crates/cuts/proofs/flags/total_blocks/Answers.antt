use Rattle.std.proofs.Common.{◌≡◌, ◌<◌, sum, sym, ◌∙◌, arith, rules}
use Rattle.tasks.specs.Stored.{task_of}
use Rattle.cuts.proofs.Ranges.{total_sum, total_bound}
use Rattle.cuts.proofs.flags.total_blocks.Goals as goal

pub sum-requires-clause-fits : goal.sum-requires-clause-fits
sum-requires-clause-fits c =
    let t = task_of c.args.task.now in
    let fits : sum t.blocks < 4294967296 = omega (arith, total_sum t.blocks, total_bound t c.requires) in
    search rules

pub returns : goal.returns
returns c =
    let t = task_of c.args.task.now in
    let is : c.sum.result ≡ sum t.blocks = search rules in
    record {
      value = is ∙ sym (total_sum t.blocks);
      bound = omega (arith, is, total_sum t.blocks, total_bound t c.requires);
    }

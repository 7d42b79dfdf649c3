use Rattle.std.proofs.Common.{length, arith}
use Rattle.tasks.specs.Tables.{sealed}
use Rattle.tasks.proofs.Rules.{sealed_rules}
use Rattle.cuts.proofs.Ranges.{stored_in_range}
use Rattle.cuts.proofs.best.tests.chosen.Goals as goal

pub best_cuts-requires : goal.best_cuts-requires
best_cuts-requires g c =
    let ts = c.tasks-tasks.result.now in
    stored_in_range (sealed c.seal-table.result) ts 0 c.index-tasks-0.result (sealed_rules c.seal-table.result) c.tasks-tasks.ensures (omega arith) c.index-tasks-0.is

use Rattle.std.proofs.Common.{rules}
use Rattle.cabinet.proofs.Changed.{changed_by}
use Rattle.machine.specs.Slots.{ended_on}
use Rattle.cabinet.proofs.records.end_core.Goals as goal

pub returns : goal.returns
returns c = changed_by (ended_on c.args.core) _ _ (λ x y k. search rules) c.change_each.ensures

use Rattle.std.proofs.Common.{rules}
use Rattle.cabinet.proofs.Changed.{changed_by}
use Rattle.machine.specs.declared.types.Event.TheVariants.{Tick}
use Rattle.machine.specs.Slots.{after_event}
use Rattle.cabinet.proofs.records.tick_all.Goals as goal

pub returns : goal.returns
returns c = changed_by (after_event Tick) _ _ (λ x y k. search rules) c.change_each.ensures

use Rattle.std.proofs.Common.{◌≡◌, drop}
use Rattle.coretests.specs.Entries.{ordered_from}
use Rattle.coretests.proofs.sound_list.is_ordered.Given as goal

abbrev pub invariant-loop-e : goal.invariant-loop-e
invariant-loop-e l = ordered_from l.last (drop l.e-index l.list) ≡ ordered_from 0 l.list

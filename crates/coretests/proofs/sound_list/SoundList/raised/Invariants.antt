use Rattle.std.proofs.Common.{◌≡◌, take}
use Rattle.bounded.specs.Lists.{list_of}
use Rattle.coretests.specs.Layers.{raised}
use Rattle.coretests.proofs.sound_list.SoundList.raised.Given as goal

abbrev pub invariant-loop-e : goal.invariant-loop-e
invariant-loop-e l = list_of l.all ≡ raised l.h (take l.e-index l.self.entries.now)

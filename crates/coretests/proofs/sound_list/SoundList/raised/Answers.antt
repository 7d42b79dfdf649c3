use Rattle.std.proofs.Common.{◌<◌, ◌++◌, [], ◌∷◌, length, take, get_or, ap, sym, ◌∙◌, arith}
use Rattle.std.proofs.lemmas.List.{map_more, length-map, length-take}
use Rattle.bounded.specs.Lists.{list_of}
use Rattle.bounded.proofs.Pushed.{pushed}
use Rattle.coretests.specs.Layers.{raise}
use Rattle.coretests.specs.Soundness.{blank, sound_is}
use Rattle.coretests.proofs.sound_list.SoundList.raised.Goals as goal

pub loop-e-preserved : goal.loop-e-preserved
loop-e-preserved c =
    let list = c.args.self.now in
    let xs = list.entries.now in
    let i = c.loop-e.e-index in
    let e = raise c.args.h (get_or xs i blank) in
    let before = list_of c.loop-e.all in
    let few = sound_is xs list.sound in
    let room : length before < 24 = omega (arith, ap length c.loop-e.invariant, length-map (take i xs) (raise c.args.h), length-take i xs) in
    pushed before (list_of c.push.new.self) e 24 c.push.result c.push.ensures.ok c.push.ensures.variant room
    ∙ ap (λ ys. ys ++ e ∷ []) c.loop-e.invariant
    ∙ sym (map_more (raise c.args.h) xs i blank c.loop-e-test.true)

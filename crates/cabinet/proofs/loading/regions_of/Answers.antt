use Rattle.std.proofs.Common.{◌≡◌, ◌<◌, [], ◌∷◌, ◌++◌, length, sym, ap, ◌∙◌, append_assoc, length-append, arith}
use Rattle.bounded.specs.Lists.{list_of}
use Rattle.bounded.proofs.Pushed.{pushed}
use Rattle.tasks.specs.Cuts.{regions}
use Rattle.tasks.specs.Stored.{task_of}
use Rattle.cuts.specs.Walk.{regions_left}
use Rattle.cuts.proofs.Walk.{regions_few}
use Rattle.cabinet.proofs.loading.regions_of.Goals as goal

pub loop-length-preserved : goal.loop-length-preserved
loop-length-preserved c =
    let t = task_of c.args.task.now in
    let done = list_of c.loop-length.lengths in
    let n = c.in-Some.length in
    let left = regions_left c.next.new.self in
    let whole : done ++ (n ∷ left) ≡ regions t c.args.cuts.now = ap (λ l. done ++ l) (sym c.in-Some.ensures.steps) ∙ c.loop-length.invariant in
    let room : length done < 16 = omega (arith, ap length whole, length-append done (n ∷ left), regions_few t c.args.cuts.now c.requires) in
    ap (λ l. l ++ left) (pushed done (list_of c.push.new.self) n 16 c.push.result c.push.ensures.ok c.push.ensures.variant room)
    ∙ append_assoc done (n ∷ []) left ∙ whole

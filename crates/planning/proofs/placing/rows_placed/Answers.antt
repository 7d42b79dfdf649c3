use Rattle.std.proofs.Common.{◌<◌, [], ◌∷◌, ◌++◌, map, length, get_or, take, sym, ap, ◌∙◌, arith}
use Rattle.std.proofs.lemmas.List.{map-append, take_more, length-take-le, length-map}
use Rattle.bounded.specs.Lists.{list_of}
use Rattle.bounded.proofs.Pushed.{pushed}
use Rattle.plans.specs.declared.types.Placed.{Placed}
use Rattle.planning.proofs.placing.rows_placed.Goals as goal

-- what a list has past its end
abbrev nowhere : Placed
nowhere = record { row = record { core = 0; cuts = [] }; entry = record { period = 0; deadline = 0; load = 0 }; overhead = 0 }

pub loop-task-preserved : goal.loop-task-preserved
loop-task-preserved c =
    let items = c.as_slice-task-items.result.now in
    let i = c.loop-task.task-index in
    let h = c.loop-task-test.true in
    let done = list_of c.loop-task.rows in
    let next = get_or items i nowhere in
    let room : length done < 24 = omega (arith, ap length c.loop-task.invariant, length-map (take i items) (λ p. p.row), length-take-le i items (omega arith), h, c.as_slice-task-items.ensures.bound) in
    pushed done (list_of c.push.new.self) next.row 24 c.push.result c.push.ensures.ok c.push.ensures.variant room
    ∙ ap (λ l. l ++ next.row ∷ []) c.loop-task.invariant ∙ sym (ap (map (λ p. p.row)) (take_more items i nowhere h) ∙ map-append (λ p. p.row) (take i items) (next ∷ []))

use Rattle.std.proofs.Common.{◌≡◌, ◌+◌, [], ◌∷◌, ◌++◌, true, cond, length, None, Some, sym, refl, ap, ◌∙◌, arith}
use Rattle.std.proofs.lemmas.List.{length_push}
use Rattle.std.proofs.lemmas.Slice.Zip.{either_empty_from_Zip}
use Rattle.tasks.specs.Stored.{task_of}
use Rattle.cuts.specs.Dynamic.{cheaper_of, Known}
use Rattle.cuts.proofs.Ranges.{ranges}
use Rattle.cuts.proofs.Dynamic.{default_uncut, scan_turn, scan_past, scan_end}
use Rattle.cuts.proofs.best.Programme.best.Goals as goal
use Rattle.cuts.proofs.best.Programme.best.Goals.{then-is_within, else-is_within}

pub loop-block-preserved : goal.loop-block-preserved
loop-block-preserved c =
    let s = c.args.self.now in
    let t = task_of s.task.now in
    let now = c.loop-block.invariant in
    let e = s.from + length c.loop-block.yielded in
    let known : Known s.limit t s.memo e = λ k le lt. s.known k (omega arith) lt in
    let turn = scan_turn s.limit t (ranges t s.ranges) c.loop-block.length e _ _ s.memo _ _ c.is_within.result c.loop-block.found c.if-is_within.found
    (sym now.row ∙ c.in-Some.ensures.steps.0) (sym now.table ∙ c.in-Some.ensures.steps.1) known c.is_within.ensures
    (elim c.if-is_within.branch [
      | then-is_within w ↦ w.found-is ∙ w.cheaper-found.ensures ∙ sym (ap (λ b. cond b (cheaper_of c.loop-block.found c.in-Some.ending.now) c.loop-block.found) w.if-is_within.true)
      | else-is_within w ↦ w.found-is ∙ sym (ap (λ b. cond b (cheaper_of c.loop-block.found c.in-Some.ending.now) c.loop-block.found) w.if-is_within.false)
    ]) in
    let more = length_push c.loop-block.yielded (c.in-Some.block, c.in-Some.ending) in
    let at : s.from + length (c.loop-block.yielded ++ (c.in-Some.block, c.in-Some.ending) ∷ []) ≡ e + 1 = omega (arith, more) in
    record {
      row = rw at turn.1;
      table = rw at turn.2;
      short = omega (arith, more, now.short, turn.0);
      chosen = rw at (turn.3 ∙ now.chosen);
    }

pub returns-then-is_within-2 : goal.returns-then-is_within-2
returns-then-is_within-2 c =
    let s = c.args.self.now in
    let t = task_of s.task.now in
    let r = ranges t s.ranges in
    let e = s.from + length c.loop-block.yielded in
    let now = c.loop-block.invariant in
    let past = scan_past s.limit t r e _ s.memo _ now.row now.table (omega arith) (either_empty_from_Zip c.loop-block.block-iterator c.next.new.self None refl c.in-None.ensures.steps) in
    let whole = c.cheaper-found-then-is_within-2.ensures ∙ ap (λ o. cheaper_of c.loop-block.found (Some o)) (default_uncut c.default.result c.default.ensures) in
    scan_end s.limit t r c.loop-block.length e true c.loop-block.found _ past c.if-is_within-2.ensures whole ∙ now.chosen

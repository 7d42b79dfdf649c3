use Rattle.std.proofs.Common.{sym, ◌∙◌}
use Rattle.std.proofs.lemmas.List.{at_drop_all}
use Rattle.coretests.specs.Entries.{ordered_from}
use Rattle.coretests.proofs.More.{ordered_pass, ordered_out, ordered_early}
use Rattle.coretests.proofs.sound_list.is_ordered.Goals as goal
use Rattle.coretests.proofs.sound_list.is_ordered.Goals.{then-not-in_range-via-then-not-in_range, then-not-in_range-via-else-not-in_range+then-e-last}

pub returns-then-not-in_range : goal.returns-then-not-in_range
returns-then-not-in_range c =
    let xs = c.args.list.now in
    let i = c.loop-e.e-index in
    elim c.then-not-in_range.branch [
      | then-not-in_range-via-then-not-in_range w ↦
          sym (ordered_out c.loop-e.last xs i c.loop-e-test.true (sym c.in_range.ensures ∙ w.if-not-in_range.true)) ∙ c.loop-e.invariant
      | then-not-in_range-via-else-not-in_range+then-e-last w ↦
          sym (ordered_early c.loop-e.last xs i c.loop-e-test.true w.if-e-last.true) ∙ c.loop-e.invariant
    ]

pub loop-e-preserved : goal.loop-e-preserved
loop-e-preserved c =
    ordered_pass c.loop-e.last c.args.list.now c.loop-e.e-index c.loop-e-test.true (sym c.if-not-in_range.ensures) c.if-e-last.false
    ∙ c.loop-e.invariant

pub returns : goal.returns
returns c = sym (at_drop_all (ordered_from c.loop-e.last) c.args.list.now c.loop-e.e-index c.loop-e-test.false) ∙ c.loop-e.invariant

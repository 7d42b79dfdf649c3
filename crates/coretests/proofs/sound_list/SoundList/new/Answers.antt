use Rattle.std.proofs.Common.{◌≡◌, true, sym, arith}
use Rattle.span.proofs.Answered.{none_above}
use Rattle.coretests.specs.Entries.{ordered_from, periods}
use Rattle.coretests.specs.Soundness.{unsound_span, sound-from, ordered_in_range, periods_positive}
use Rattle.coretests.proofs.sound_list.SoundList.new.Goals as goal

pub returns-in_err-span : goal.returns-in_err-span
returns-in_err-span c =
    let xs = c.args.entries.now in
    let ordered : ordered_from 0 xs ≡ true = sym c.if-not-is_ordered.ensures in
    let over = none_above (periods xs) (periods_positive xs (ordered_in_range 0 xs ordered)) c.in_err-span.ensures in
    rw c.from_residual.ensures (unsound_span xs over)

pub invariant_of-result : goal.invariant_of-result
invariant_of-result c =
    let xs = c.args.entries.now in
    let h = c.in_ok-span.ensures in
    record {
      sound = sound-from xs (record { few = c.if-entries-gt-MAX_ENTRIES.false; ordered = sym c.if-not-is_ordered.ensures; spanned = omega (arith, h.is, h.within) });
      whole = h.is;
      some = h.least.some;
      short = h.within;
    }

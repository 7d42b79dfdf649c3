use Rattle.std.proofs.Common.{slice_index_or, sum_by, ap, ◌∙◌, arith, take_all}
use Rattle.std.proofs.lemmas.List.Sums.{sum_by_more}
use Rattle.coretests.specs.Soundness.{blank, in_range_at}
use Rattle.coretests.proofs.DemandLine.{share, lead_of, lead_small, past_tight}
use Rattle.coretests.proofs.sound_list.SoundList.last_tight.Goals as goal

pub loop-x-preserved : goal.loop-x-preserved
loop-x-preserved c =
    let xs = c.args.self.now.entries.now in
    let i = c.loop-x.x-index in
    let m = c.args.self.now.span in
    let f = in_range_at xs i c.args.self.now.sound c.loop-x-test.true in (
      omega (arith, sum_by_more (share m) xs i blank c.loop-x-test.true),
      omega (arith, sum_by_more (lead_of m) xs i blank c.loop-x-test.true),
      c.if-work-span.false,
      omega (arith, lead_small m (slice_index_or xs i blank) f),
    )

pub returns : goal.returns
returns c =
    let list = c.args.self.now in
    let xs = list.entries.now in
    let m = list.span in
    let whole = take_all c.loop-x.x-index xs c.loop-x-test.false in
    record {
      within = omega arith;
      past = λ s h k.
          past_tight xs m c.loop-x.work c.loop-x.lead c.args.least s list.sound list.whole
          (c.loop-x.invariant.0 ∙ ap (sum_by (share m)) whole) (c.loop-x.invariant.1 ∙ ap (sum_by (lead_of m)) whole) c.loop-x.invariant.2
          (omega arith);
    }

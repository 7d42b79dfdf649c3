use Rattle.std.proofs.Common.{◌≡◌, length, Some, None}
use Rattle.std.specs.Iterator.Adapters.{zip_first, zip_second}
use Rattle.std.specs.Slice.Iter.{iter_rest}
use Rattle.cuts.specs.Regions.{regions_ahead, Fits}
use Rattle.cuts.specs.Walk.{regions_left}
use Rattle.cuts.proofs.regions.walk.RegionsIterator.next.Given as goal

-- the region under way is in `length`, and no longer in the iterator
abbrev pub invariant-loop-block : goal.invariant-loop-block
invariant-loop-block l =
    let gaps = l.self.gaps in
    let bs = iter_rest (zip_first (zip_first gaps)) in
    let ps = iter_rest (zip_second (zip_first gaps)) in
    let fs = iter_rest (zip_second gaps) in
    (l.self.under_way ≡ None) × Fits (Some l.length) bs ps fs × (regions_ahead (Some l.length) bs ps fs ≡ regions_left l.fn.self)

abbrev pub decreases-loop-block : goal.decreases-loop-block
decreases-loop-block l = length (iter_rest (zip_first (zip_first l.self.gaps)))

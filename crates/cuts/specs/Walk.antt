-- What an iterator over regions has left to give.
use Rattle.std.specs.Prelude.{ℕ, List}
use Rattle.std.specs.Iterator.Adapters.{zip_first, zip_second}
use Rattle.std.specs.Slice.Iter.{iter_rest}
use Rattle.cuts.specs.declared.regions.Regions.{Regions}
use Rattle.cuts.specs.Regions.{regions_ahead}

abbrev pub regions_left : Regions → List ℕ
regions_left s = regions_ahead s.under_way (iter_rest (zip_first (zip_first s.gaps))) (iter_rest (zip_second (zip_first s.gaps))) (iter_rest (zip_second s.gaps))

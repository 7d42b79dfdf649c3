use Rattle.std.proofs.Common.{◌≡◌, ◌+◌, ◌*◌, ◌≤◌, length, drop}
use Rattle.std.specs.Iterator.Adapters.{zip_first, zip_second}
use Rattle.std.specs.Slice.Iter.{iter_rest}
use Rattle.tasks.specs.Stored.{task_of}
use Rattle.cuts.specs.Dynamic.{cheaper_of, best_at}
use Rattle.cuts.proofs.best.Programme.best.Given as goal

-- the walk has come to point e
abbrev pub invariant-loop-block : goal.invariant-loop-block
invariant-loop-block l =
    let t = task_of l.self.task.now in
    let e = l.self.from + length l.yielded in
    record {
      row : iter_rest (zip_first l.block-iterator) ≡ drop (e + 1) t.blocks;
      table : iter_rest (zip_second l.block-iterator) ≡ drop e l.self.memo;
      short : l.length ≤ 2000000 + 1000000 * length l.yielded;
      chosen : cheaper_of l.found (best_at l.self.limit t l.length e) ≡ best_at l.self.limit t l.start l.self.from;
    }

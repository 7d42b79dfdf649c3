use Rattle.std.proofs.Common.{◌≡◌, length, take, drop}
use Rattle.std.specs.List.{AllZip}
use Rattle.bounded.specs.Lists.{list_of}
use Rattle.cabinet.proofs.records.change_each.Given as goal

-- what is behind has changed, and what is ahead has not
abbrev pub invariant-loop-i : goal.invariant-loop-i
invariant-loop-i g l = record {
  long : length (list_of l.table) ≡ length (list_of l.initial.table);
  changed : AllZip (λ x y. goal.F-post g l.f x y) (take l.i (list_of l.initial.table)) (take l.i (list_of l.table)) × (drop l.i (list_of l.table) ≡ drop l.i (list_of l.initial.table));
}

use Rattle.std.proofs.Common.{◌≡◌, ◌+◌, ◌<◌, length, take, drop, sym, ap, ◌∙◌, subst, arith, length-set}
use Rattle.std.specs.List.{AllZip}
use Rattle.bounded.specs.Lists.{list_of}
use Rattle.machine.specs.declared.types.Slot.{Slot}
use Rattle.cabinet.proofs.Changed.{changed_more}
use Rattle.cabinet.proofs.records.change_each.Goals as goal

pub loop-i-preserved : goal.loop-i-preserved
loop-i-preserved g c =
    let R : Slot → Slot → Type 0 = λ x y. goal.F-post g c.args.f x y in
    let old = list_of c.args.table.now in
    let xs = list_of c.loop-i.table in
    let i = c.loop-i.i in
    let long = c.loop-i.invariant.long in
    let here : i < length xs = omega arith in
    record {
      long = ap length c.set.ensures ∙ simp length-set long;
      changed = subst (λ l. AllZip R (take (i + 1) old) (take (i + 1) l) × (drop (i + 1) l ≡ drop (i + 1) old)) (sym c.set.ensures) (changed_more R old xs i c.at.result c.f.result here (c.at.ensures c.at.result) c.f.ensures c.loop-i.invariant.changed);
    }

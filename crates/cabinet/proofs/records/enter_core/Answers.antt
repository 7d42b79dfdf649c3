use Rattle.std.proofs.Common.{length, Some, None, sym, ap, ◌∙◌, subst}
use Rattle.bounded.specs.Lists.{list_of}
use Rattle.machine.specs.Slots.{busy}
use Rattle.machine.specs.Choosing.{Chooses}
use Rattle.machine.proofs.Bridge.{chosen_enters, none_enters, busy_enters}
use Rattle.cabinet.proofs.records.enter_core.Goals as goal

pub returns-then-is_busy : goal.returns-then-is_busy
returns-then-is_busy c =
    let core = c.args.core in
    busy_enters core (list_of c.args.table.now) (ap (busy core) (sym c.as_slice.ensures.value) ∙ sym c.if-is_busy.ensures)

pub returns-in-Some : goal.returns-in-Some
returns-in-Some c =
    let core = c.args.core in
    let chosen = subst (λ l. Chooses core l (length l) (Some c.in-Some.i)) c.as_slice-2.ensures.value c.in-Some.ensures in
    c.set.ensures ∙ chosen_enters core (list_of c.args.table.now) c.in-Some.i c.at-slot.result c.after_event.result (ap (busy core) (sym c.as_slice.ensures.value) ∙ sym c.if-is_busy.ensures) chosen c.at-slot.ensures c.after_event.ensures

pub returns-in_default : goal.returns-in_default
returns-in_default c =
    let core = c.args.core in
    let none = subst (λ l. Chooses core l (length l) None) c.as_slice-2.ensures.value c.in_default.ensures in
    none_enters core (list_of c.args.table.now) (ap (busy core) (sym c.as_slice.ensures.value) ∙ sym c.if-is_busy.ensures) none

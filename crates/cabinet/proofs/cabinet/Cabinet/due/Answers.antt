use Rattle.std.proofs.Common.{◌≡◌, ◌<◌, not, Some, IfSome, sym, ap, ◌∙◌, subst}
use Rattle.std.specs.Bool.{then_some}
use Rattle.machine.specs.Machine.{slot_at}
use Rattle.cabinet.specs.Cabinets.{state}
use Rattle.cabinet.proofs.Reaching.{due_later, due_of_later}
use Rattle.cabinet.proofs.cabinet.Cabinet.due.Goals as goal

pub returns-clause-later : goal.returns-clause-later
returns-clause-later c =
    let st = state c.args.self.now in
    let slot = c.in_ok-slot.slot in
    let is : Some slot ≡ slot_at c.args.place st.slots = c.in_ok-slot.ensures ∙ ap (slot_at c.args.place) c.as_slice.ensures.value in
    let due = c.then_some.ensures ∙ ap (λ b. then_some (not b) slot.due) c.is_idle.ensures in
    subst (λ o. IfSome o (λ d. st.clock < d)) (sym due) (due_of_later slot.job st.clock slot.due (due_later st c.args.place slot c.args.self.now.reached is))

use Rattle.std.proofs.Common.{◌≡◌, ◌+◌, ◌-◌, set, Some, refl, sym, ap, ◌∙◌, arith}
use Rattle.bounded.specs.Lists.{list_of}
use Rattle.machine.specs.Slots.{released}
use Rattle.machine.specs.Machine.{slot_at, granted}
use Rattle.machine.proofs.Bridge.{release_step}
use Rattle.cabinet.specs.States.{state_of, with_slots}
use Rattle.cabinet.proofs.Indexing.{slot_index}
use Rattle.cabinet.proofs.plain.Plain.release.Goals as goal
use Rattle.cabinet.proofs.plain.Plain.release.Goals.{In-Some}

-- the record that was found is that of the place
found : (c : In-Some) → Some c.in-Some.slot ≡ slot_at c.args.place (list_of c.args.self.now.slots)
found c = c.in-Some.ensures ∙ ap (slot_at c.args.place) c.as_slice.ensures.value

pub set-requires : goal.set-requires
set-requires c = (omega arith, (slot_index c.args.place (list_of c.args.self.now.slots) c.in-Some.slot (found (goal.at.set-requires c).In-Some)).1)

pub returns : goal.returns
returns c =
    let st = state_of c.args.self.now in
    let place = c.args.place in
    let slot = c.in-Some.slot in
    let slots : list_of c.set.new.self ≡ set st.slots (place - 1) (released st.clock slot) =
    c.set.ensures ∙ (λ i. set st.slots (place - 1) (record { task = (c.after_event.ensures i).task; job = (c.after_event.ensures i).job; due = st.clock + c.from.ensures i; last = Some st.clock })) in
    release_step st place slot (released st.clock slot) (found (goal.at.returns c).In-Some) c.if-not-has_period_passed.ensures c.if-not-is_idle.ensures refl ∙ ap (λ l. (with_slots st l, granted)) (sym slots)

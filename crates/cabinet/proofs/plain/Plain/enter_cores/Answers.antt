use Rattle.std.proofs.Common.{◌≡◌, ◌-◌, ap, ◌∙◌, arith}
use Rattle.bounded.specs.Lists.{list_of}
use Rattle.machine.specs.Slots.{enter_all}
use Rattle.cabinet.specs.States.{state_of, with_slots}
use Rattle.cabinet.proofs.plain.Plain.enter_cores.Goals as goal

pub returns : goal.returns
returns c =
    let all : c.loop-core.core - 1 ≡ c.args.self.now.cores = omega arith in
    c.loop-core.invariant.0 ∙ ap (λ n. with_slots (state_of c.args.self.now) (enter_all n (list_of c.args.self.now.slots))) all

use Rattle.std.proofs.Common.{◌≡◌, ◌-◌, ◌+◌, length, ap, ◌∙◌, arith}
use Rattle.bounded.specs.Lists.{list_of}
use Rattle.bounded.proofs.Pushed.{pushed}
use Rattle.machine.specs.Slots.{row_of, place_on}
use Rattle.machine.proofs.Bridge.{row_more, length-row_of}
use Rattle.cabinet.proofs.plain.Plain.row.Goals as goal
use Rattle.cabinet.proofs.plain.Plain.row.Goals.{After-push}

-- the row with one more number
more : (c : After-push) → list_of c.push.new.self ≡ row_of c.loop-core.core (list_of c.args.self.now.slots)
more c =
    let core = c.loop-core.core in
    let ss = list_of c.args.self.now.slots in
    let row = list_of c.loop-core.row in
    pushed row (list_of c.push.new.self) c.place_on.result 8 c.push.result c.push.ensures.ok c.push.ensures.variant (omega (arith, ap length c.loop-core.invariant.0, length-row_of (core - 1) ss, c.args.self.now.few))
    ∙ row_more core ss row c.place_on.result (omega arith) c.loop-core.invariant.0 (c.place_on.ensures ∙ ap (place_on core 1) c.as_slice.ensures.value)

pub loop-core-preserved : goal.loop-core-preserved
loop-core-preserved c =
    let next : c.loop-core.core ≡ c.loop-core.core + 1 - 1 = omega arith in
    (more (goal.at.loop-core-preserved c).After-push ∙ ap (λ n. row_of n (list_of c.args.self.now.slots)) next, omega arith)

pub returns : goal.returns
returns c =
    let all : c.loop-core.core - 1 ≡ c.args.self.now.cores = omega arith in
    c.loop-core.invariant.0 ∙ ap (λ n. row_of n (list_of c.args.self.now.slots)) all

pub returns-2 : goal.returns-2
returns-2 c =
    let all : c.loop-core.core ≡ c.args.self.now.cores = omega arith in
    more (goal.at.returns-2 c).After-push ∙ ap (λ n. row_of n (list_of c.args.self.now.slots)) all

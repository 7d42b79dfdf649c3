use Rattle.std.proofs.Common.{◌≡◌, ◌+◌, sym, refl, ap, ◌∙◌, subst, arith}
use Rattle.std.proofs.lemmas.Bool.{false≢true}
use Rattle.std.proofs.lemmas.List.{take_all}
use Rattle.coretests.specs.Edf.{demand, EdfAccepts}
use Rattle.coretests.proofs.EdfSteps.{demand_next, demand_part, demand-none, overrun, all_met, met_down}
use Rattle.coretests.proofs.edf.EdfCoreTest.holds.Goals as goal

pub loop-e-init : goal.loop-e-init
loop-e-init c = (sym (demand-none c.moments.t), omega arith)

pub loop-e-preserved : goal.loop-e-preserved
loop-e-preserved c =
    (omega (arith, c.work-due.ensures.value, demand_next c.in-Some.list.entries.now c.moments.t c.loop-e.e-index c.loop-e-test.true), c.if-due-t.false)

pub moments-preserved : goal.moments-preserved
moments-preserved c =
    let list = c.in-Some.list in
    let all : c.loop-e.due ≡ demand list.entries.now c.moments.t = c.loop-e.invariant.0 ∙ ap (λ l. demand l c.moments.t) (take_all c.loop-e.e-index list.entries.now c.loop-e-test.false) in
    λ s a b. met_down list.entries.now c.moments.t c.loop-e.due list.span s list.sound all (omega arith) b c.moments.invariant

pub returns-then-due-t : goal.returns-then-due-t
returns-then-due-t c =
    let xs = c.in-Some.list.entries.now in
    let t = c.moments.t in
    let i = c.loop-e.e-index in (
      λ e. absurd (false≢true e),
      λ m. absurd (overrun xs t (omega (arith, c.work-due.ensures.value, demand_next xs t i c.loop-e-test.true, demand_part xs t (i + 1))) (subst EdfAccepts (sym c.in-Some.ensures) m)),
    )

pub returns-then-due-eq0 : goal.returns-then-due-eq0
returns-then-due-eq0 c =
    let list = c.in-Some.list in
    let all : c.loop-e.due ≡ demand list.entries.now c.moments.t = c.loop-e.invariant.0 ∙ ap (λ l. demand l c.moments.t) (take_all c.loop-e.e-index list.entries.now c.loop-e-test.false) in
    (λ _. subst EdfAccepts c.in-Some.ensures (all_met list.entries.now list.sound (λ s b. met_down list.entries.now c.moments.t c.loop-e.due list.span s list.sound all (omega arith) (omega (arith, list.whole)) c.moments.invariant)), λ _. refl)

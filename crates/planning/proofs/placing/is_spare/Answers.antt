use Rattle.std.proofs.Common.{rules, ◌≡◌, ◌-◌, [], Decides, refl, subst}
use Rattle.std.proofs.lemmas.Iterator.{YieldsList-from_range, cases_from_any}
use Rattle.plans.specs.Plans.{on_core}
use Rattle.optimality.specs.Beginnings.{Spare}
use Rattle.planning.proofs.Next.{spare_from}
use Rattle.planning.proofs.placing.is_spare.Goals as goal

pub returns-then-is_idle : goal.returns-then-is_idle
returns-then-is_idle c =
    let ps = c.as_slice-before.result.now in
    subst (λ l. Decides c.any.result (Spare c.args.core l)) c.as_slice-before.ensures.value
    (spare_from c.args.core ps (c.is_idle.ensures.0 c.if-is_idle.true) c.any.result
    (cases_from_any _ _ c.any.result (λ k. on_core k ps ≡ []) (λ k. on_core k ps ≡ [] → ⊥) c.any.ensures.ran (YieldsList-from_range 1 c.args.core (c.args.core - 1) refl refl) (λ x q k. search rules) (λ x q k. search rules)))

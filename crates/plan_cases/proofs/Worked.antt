-- The worked cases hold: the lists are accepted by arithmetic, and limits, rules and costs are computed. Assumes nothing.
-- Each case has the chosen cuts of the first task and why its list is accepted, and then what the second task can do behind it.
use Rattle.std.proofs.Common.{◌≡◌, ℕ, true, false, [], ◌∷◌, Some, None, refl, arith}
use Rattle.span.specs.Spans.{gcd_by, gcd_of, lcm_of, span_from, span_of}
use Rattle.coretests.specs.Entries.{sound, guarded}
use Rattle.coretests.specs.Edf.{demand}
use Rattle.coretests.specs.FixedPriority.{workload, tolerance}
use Rattle.coretests.specs.Layers.{handed_over}
use Rattle.plan_cases.specs.Cases.{task, urgent, WorkedCases}
use Rattle.plan_cases.proofs.TestLaws.{edf_laws, fixed_laws, cap_laws, handover_laws}
use Rattle.plan_cases.proofs.Flags.{uncut-least, too_long, cut_least, stuck}
use Rattle.plan_cases.proofs.OneCore.{plan_is, no_cuts, no_room}
use Rattle.plan_cases.proofs.TwoCores.{apart}

pub worked : WorkedCases
unfolding sound guarded demand span_of span_from lcm_of gcd_of gcd_by workload tolerance handed_over
worked = record {
  region_that_just_fits =
      plan_is edf_laws _ _ refl [] (uncut-least None urgent refl) (refl, λ t h. omega arith)
      [] (uncut-least (Some 3) (task 2 10 10 (3 ∷ []) []) refl) (refl, λ t h. omega arith) 0 refl;
  region_one_too_long =
      no_cuts edf_laws _ _ refl [] (uncut-least None urgent refl) (refl, λ t h. omega arith) (too_long (Some 3) 2 10 10 4 refl);
  cut_that_pays =
      plan_is edf_laws _ _ refl [] (uncut-least None urgent refl) (refl, λ t h. omega arith)
      (true ∷ []) (cut_least (Some 3) 2 10 10 3 1 1 refl refl) (refl, λ t h. omega arith) 2 refl;
  cost_falls_on_the_later_region =
      no_cuts edf_laws _ _ refl [] (uncut-least None urgent refl) (refl, λ t h. omega arith) (stuck (Some 3) 2 10 10 1 3 1 refl refl);
  overrun_after_the_largest_deadline =
      no_room edf_laws _ _ refl [] (uncut-least None (task 1 2 2 (1 ∷ []) []) refl) (refl, λ t h. omega arith)
      (true ∷ []) (cut_least (Some 1) 2 3 3 1 1 0 refl refl) (λ a. omega (arith, a.1 6 (omega arith)));
  theSameOnTwoCores =
      apart edf_laws _ _ refl [] (uncut-least None (task 1 2 2 (1 ∷ []) []) refl) (refl, λ t h. omega arith)
      (true ∷ []) (cut_least (Some 1) 2 3 3 1 1 0 refl refl) (λ a. omega (arith, a.1 6 (omega arith)))
      (false ∷ []) (uncut-least None (task 2 3 3 (1 ∷ 1 ∷ []) (0 ∷ [])) refl) (refl, λ t h. omega arith) 0 refl;
  fullCore =
      plan_is edf_laws _ _ refl [] (uncut-least None (task 1 4 4 (2 ∷ []) []) refl) (refl, λ t h. omega arith)
      (true ∷ []) (cut_least (Some 2) 2 6 6 2 1 0 refl refl) (refl, λ t h. omega arith) 0 refl;
  full_core_fixed_priority =
      no_room fixed_laws _ _ refl [] (uncut-least None (task 1 4 4 (2 ∷ []) []) refl) (refl, refl)
      (true ∷ []) (cut_least (Some 2) 2 6 6 2 1 0 refl refl) (λ a. let z : ◌≡◌ {A = ℕ} 0 1 = cc a.1 in omega arith);
  equal_deadlines =
      plan_is edf_laws _ _ refl [] (uncut-least None (task 1 10 4 (2 ∷ []) []) refl) (refl, λ t h. omega arith)
      [] (uncut-least None (task 2 10 4 (2 ∷ []) []) refl) (refl, λ t h. omega arith) 0 refl;
  handover =
      no_cuts (handover_laws edf_laws 1) _ _ refl [] (uncut-least None urgent refl) (refl, (refl, λ t h. omega arith)) (too_long (Some 1) 2 10 10 3 refl);
  cap =
      plan_is (cap_laws edf_laws 2) _ _ refl [] (uncut-least (Some 2) urgent refl) (refl, λ t h. omega arith)
      (true ∷ []) (cut_least (Some 2) 2 10 10 2 1 0 refl refl) (refl, λ t h. omega arith) 0 refl;
}

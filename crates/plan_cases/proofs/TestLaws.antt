-- The core tests of the cases keep the laws that planning rests on. Assumes nothing.
use Rattle.std.proofs.Common.{ℕ, List, [], ◌∷◌, Some, Option, arith}
use Rattle.coretests.specs.declared.entry.Entry.{Entry}
use Rattle.coretests.specs.Edf.{EdfAccepts, least_slack, edf_limit}
use Rattle.coretests.specs.FixedPriority.{least_tolerance, FixedAccepts, fixed_limit}
use Rattle.coretests.specs.Layers.{raise, raised, CapAccepts, cap_limit, HandoverAccepts, handover_limit}
use Rattle.coretests.specs.Bounds.{lesser_mono}
use Rattle.coretests.specs.Soundness.{sound_lighter, sound_front}
use Rattle.coretests.specs.Guard.{guard_lighter}
use Rattle.coretests.specs.EdfLaws.{accepts_lighter, accepts_front, least_slack_lighter}
use Rattle.coretests.specs.FixedLaws.{fixed_lighter, fixed_front, least_lighter}
use Rattle.coretests.specs.Handovers.{raised_lighter, raised_push, handed_lighter}
use Rattle.optimality.specs.Tests.{Laws}

pub edf_laws : Laws EdfAccepts edf_limit
edf_laws = record {
  lighter = accepts_lighter;
  longer = λ xs ys d e. guard_lighter xs ys d (least_slack xs d) (least_slack ys d) e (least_slack_lighter xs ys d e);
  fewer = accepts_front;
}

pub fixed_laws : Laws FixedAccepts fixed_limit
fixed_laws = record {
  lighter = fixed_lighter;
  longer = λ xs ys d e. guard_lighter xs ys d (least_tolerance [] xs) (least_tolerance [] ys) e (least_lighter [] [] xs ys tt e);
  fewer = fixed_front;
}

module _ {accepts : List Entry → Type 0} {limit : List Entry → ℕ → Option ℕ} (laws : Laws accepts limit) where
  pub cap_laws : (c : ℕ) → Laws (CapAccepts accepts) (cap_limit c limit)
  cap_laws c = record {
    lighter = laws.lighter;
    longer = λ xs ys d e. lesser_mono (limit xs d) (Some c) (limit ys d) (Some c) (laws.longer xs ys d e) (omega arith);
    fewer = laws.fewer;
  }

  pub handover_laws : (h : ℕ) → Laws (HandoverAccepts h accepts) (handover_limit h limit)
  handover_laws h = record {
    lighter = λ xs ys e m. (sound_lighter xs ys e m.0, laws.lighter (raised h xs) (raised h ys) (raised_lighter h xs ys e) m.1);
    longer = λ xs ys d e. handed_lighter h (λ zs. limit zs d) (λ us vs l. laws.longer us vs d l) xs ys e;
    fewer = λ xs x m. (sound_front xs (x ∷ []) m.0, laws.fewer (raised h xs) (raise h x) (rw (raised_push h xs x) at m.1));
  }

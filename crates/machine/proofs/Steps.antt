-- What it takes that a call is not refused. Assumes nothing.
use Rattle.std.proofs.Common.{◌≡◌, ℕ, zero, suc, Bool, true, false, List, [], ◌∷◌, Some, None, Option, refl}
use Rattle.std.proofs.lemmas.Bool.{not-false}
use Rattle.tasks.specs.Refusals.{first_of}
use Rattle.tasks.specs.declared.refusal.Refusal.{Refusal}
use Rattle.tasks.specs.declared.refusal.Refusal.TheVariants.{EarlyRelease, UnfinishedJob}
use Rattle.machine.specs.declared.types.Assigned.{Assigned}
use Rattle.machine.specs.declared.types.Slot.{Slot}
use Rattle.machine.specs.Slots.{is_idle, period_passed, released}
use Rattle.machine.specs.Schedulable.{Schedulable}
use Rattle.machine.specs.Machine.{slot_at, change_place, release_refusal}
use Rattle.machine.proofs.Tick.{Invariant}
use Rattle.machine.proofs.Calls.{Accepted, release_keeps}

-- neither of two conditions is met
pub unrefused : (a b : Bool) (x y : Refusal) → first_of ((a, x) ∷ (b, y) ∷ []) ≡ None → (a ≡ false) × (b ≡ false)
unrefused true b x y e = absurd cc
unrefused false true x y e = absurd cc
unrefused false false x y e = (refl, refl)

-- there is a record whose release is accepted
pub record Releasable (now : ℕ) (o : Option Slot) : Type 0 where
  pub slot : Slot
  pub there_is : o ≡ Some slot
  pub accepted : Accepted now slot

pub releasable : (now place : ℕ) (o : Option Slot) → release_refusal now place o ≡ None → Releasable now o
releasable now place None e = absurd cc
releasable now place (Some s) e =
    let h = unrefused _ _ (EarlyRelease place) (UnfinishedJob place) e in
    record { slot = s; there_is = refl; accepted = (not-false (is_idle s.job) h.1, not-false (period_passed now s.task s.last) h.0) }

pub release_invariant : (cores now : ℕ) (tasks : List Assigned) (ss : List Slot) (place : ℕ) → Schedulable cores tasks → Invariant cores 1 now tasks ss → Releasable now (slot_at place ss) → Invariant cores 1 now tasks (change_place place (released now) ss)
release_invariant cores now tasks ss zero fit i r = i
release_invariant cores now tasks ss (suc k) fit i r = release_keeps cores now tasks ss fit i k r.slot r.there_is r.accepted

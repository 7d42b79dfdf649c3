-- The answers that every test gives first. Assumes nothing.
use Rattle.std.specs.Prelude.{◌≡◌, ℕ, ◌≤◌, true, false, cond, ◌&&◌, List, Some, Option, nat_le}
use Rattle.std.proofs.Common.{ap, ⊎_elim}
use Rattle.std.proofs.lemmas.Bool.{and_left, and_right, and_parts, and_from, cases_Bool, leb-true}
use Rattle.coretests.specs.declared.entry.Entry.{Entry}
use Rattle.coretests.specs.Limits.{AtMost}
use Rattle.coretests.specs.Entries.{sound, between, Lighter, guarded}
use Rattle.coretests.specs.Bounds.{at_most_zero}
use Rattle.coretests.specs.Soundness.{sound_lighter}

pub guard_closed : (xs : List Entry) (d : ℕ) (o : Option ℕ) → (sound xs && between 1 1000000 d) ≡ false → guarded xs d o ≡ Some 0
unfolding guarded
guard_closed xs d o h = ap (λ b. cond b o (Some 0)) h

pub guard_open : (xs : List Entry) (d : ℕ) (o : Option ℕ) → (sound xs && between 1 1000000 d) ≡ true → guarded xs d o ≡ o
unfolding guarded
guard_open xs d o h = ap (λ b. cond b o (Some 0)) h

pub guard_unsound : (xs : List Entry) (d : ℕ) (o : Option ℕ) → sound xs ≡ false → guarded xs d o ≡ Some 0
guard_unsound xs d o h = guard_closed xs d o (and_left (sound xs) (between 1 1000000 d) h)

pub guard_outside : (xs : List Entry) (d : ℕ) (o : Option ℕ) → between 1 1000000 d ≡ false → guarded xs d o ≡ Some 0
guard_outside xs d o h = guard_closed xs d o (and_right (sound xs) (between 1 1000000 d) h)

pub guard_lighter : (xs ys : List Entry) (d : ℕ) (o p : Option ℕ) → Lighter xs ys → AtMost o p → AtMost (guarded xs d o) (guarded ys d p)
guard_lighter xs ys d o p e h =
    ⊎_elim
    (λ (t : (sound xs && between 1 1000000 d) ≡ true).
    let a = and_parts (sound xs) (between 1 1000000 d) t in
    rw (guard_open xs d o t, guard_open ys d p (and_from (sound ys) (between 1 1000000 d) (sound_lighter xs ys e a.0) a.1)) h)
    (λ (t : (sound xs && between 1 1000000 d) ≡ false). rw (guard_closed xs d o t) (at_most_zero (guarded ys d p)))
    (cases_Bool (sound xs && between 1 1000000 d))

pub between_is : (d : ℕ) → between 1 1000000 d ≡ true → (1 ≤ d) × (d ≤ 1000000)
between_is d h = let a = and_parts (nat_le 1 d) (nat_le d 1000000) h in (leb-true _ _ a.0, leb-true _ _ a.1)

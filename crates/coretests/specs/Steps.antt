-- Facts on quotients. Assumes nothing.
use Rattle.std.specs.Prelude.{◌≡◌, ℕ, ◌+◌, ◌*◌, ◌/◌, ◌%◌, ◌≤◌}
use Rattle.std.proofs.Common.{sym, ap, ◌∙◌, arith, le-div_iff_mul-le, div-mul-le_self, le_trans}
use Rattle.std.proofs.Math.Nat.{add-mul-div_left, mod-add-div}

pub div_mono : (a b k : ℕ) → 1 ≤ k → a ≤ b → a / k ≤ b / k
div_mono a b k h l = (le-div_iff_mul-le h).1 (le_trans (div-mul-le_self a k) l)

-- a whole number of periods later, as many jobs more
pub div_later : (a m k : ℕ) → 1 ≤ k → m % k ≡ 0 → (a + m) / k ≡ a / k + m / k
div_later a m k h e =
    let whole : k * (m / k) ≡ m = omega (arith, mod-add-div m k) in
    sym (ap (λ x. (a + x) / k) whole) ∙ add-mul-div_left a (m / k) h

-- The greatest common divisor. Assumes nothing.
use Rattle.std.proofs.Common.{◌≡◌, ℕ, zero, suc, ◌*◌, ◌/◌, ◌%◌, ◌<◌, ◌≤◌, sym, refl, subst, mod-lt, zero-mul, arith}
use Prim.Native.Nat.{◌∣◌}
use native.Mathlib.Nat.{dvd-zero, dvd_trans, dvd-mul_right, dvd_of_mul-dvd-mul_left, mul-div_cancel', mul-dvd-mul_left, pos_of_dvd_of_pos}
use Rattle.std.specs.Int.{IsGcd}
use Rattle.std.proofs.lemmas.Nat.Gcd.{IsGcd-from_zero, IsGcd-from_mod, same_from_IsGcd}
use Rattle.span.specs.Spans.{gcd_by, gcd_of}

-- as many steps as the second number are enough
by_enough : (f a b : ℕ) → b ≤ f → IsGcd a b (gcd_by f a b)
unfolding gcd_by
by_enough zero a zero h = IsGcd-from_zero a 0 refl
by_enough zero a (suc b) h = absurd (omega arith)
by_enough (suc f) a zero h = IsGcd-from_zero a 0 refl
by_enough (suc f) a (suc b) h =
    let less : a % suc b < suc b = mod-lt a (omega arith) in
    IsGcd-from_mod a (suc b) _ (by_enough f (suc b) (a % suc b) (omega arith))

pub gcd_is : (a b : ℕ) → IsGcd a b (gcd_of a b)
unfolding gcd_of
gcd_is a b = by_enough b a b (omega arith)

pub gcd_same : (a b g : ℕ) → IsGcd a b g → g ≡ gcd_of a b
gcd_same a b g h = same_from_IsGcd a b g (gcd_of a b) h (gcd_is a b)

pub gcd_some : (a b g : ℕ) → IsGcd a b g → 0 < b → 0 < g
gcd_some a b g h some = pos_of_dvd_of_pos h.1 some

-- a common factor comes out
pub gcd_scale : (k a b : ℕ) → gcd_of (k * a) (k * b) ≡ k * gcd_of a b
gcd_scale k a b =
    let is = gcd_is a b in
    sym (gcd_same (k * a) (k * b) (k * gcd_of a b) (mul-dvd-mul_left (gcd_of a b) k is.0, mul-dvd-mul_left (gcd_of a b) k is.1, greatest k))
  where
    greatest : (k d : ℕ) → d ∣ k * a → d ∣ k * b → d ∣ k * gcd_of a b
    greatest zero d h l = subst (λ n. d ∣ n) (sym (zero-mul (gcd_of a b))) (dvd-zero d)
    greatest (suc j) d h l =
        let k : ℕ = suc j in
        let some : 0 < k = omega arith in
        let is = gcd_is (k * a) (k * b) in
        let g : ℕ = gcd_of (k * a) (k * b) in
        let whole : k * (g / k) ≡ g = mul-div_cancel' k (is.2 k (dvd-mul_right k a) (dvd-mul_right k b)) in
        let left : g / k ∣ a = dvd_of_mul-dvd-mul_left (g / k) some (subst (λ n. n ∣ k * a) (sym whole) is.0) in
        let right : g / k ∣ b = dvd_of_mul-dvd-mul_left (g / k) some (subst (λ n. n ∣ k * b) (sym whole) is.1) in
        dvd_trans d (is.2 d h l) (subst (λ n. n ∣ k * gcd_of a b) whole (mul-dvd-mul_left (g / k) k ((gcd_is a b).2 (g / k) left right)))

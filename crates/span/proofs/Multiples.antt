-- The least common multiple of two numbers, and of a list. Assumes nothing.
use Rattle.std.proofs.Common.{◌≡◌, ℕ, ◌*◌, ◌/◌, ◌%◌, ◌<◌, ◌≤◌, List, [], ◌∷◌, ◌++◌, sym, refl, ap, ◌∙◌, subst, mul_comm, mul-pos, mul_right_comm, arith}
use Prim.Native.Nat.{◌∣◌}
use native.Mathlib.Nat.{div-mul_cancel, dvd_refl, dvd_trans, one-dvd, dvd-mul_left, dvd-mul_right, dvd_of_mod-eq-zero, mod-eq-zero_of_dvd, dvd_of_mul-dvd-mul_right, mul-dvd-mul_left, mul-dvd-mul_right, pos_of_dvd_of_pos, le_of_dvd}
use Rattle.std.specs.List.{Contains}
use Rattle.std.proofs.lemmas.List.Elements.{All-from_recursion, All-contains}
use Rattle.span.specs.Spans.{gcd_of, lcm_of, span_from, span_of, Positive, CommonMultiple, LeastCommonMultiple}
use Rattle.span.proofs.Divisors.{gcd_is, gcd_scale}

pub lcm_is : (a b : ℕ) → lcm_of a b ≡ a / gcd_of a b * b
unfolding lcm_of
lcm_is a b = refl

-- two numbers, the second above 0
module _ (a b : ℕ) (some : 0 < b) where
  gcd_some : 0 < gcd_of a b
  gcd_some = pos_of_dvd_of_pos (gcd_is a b).1 some

  lcm_gcd : lcm_of a b * gcd_of a b ≡ a * b
  unfolding lcm_of
  lcm_gcd = mul_right_comm (a / gcd_of a b) b (gcd_of a b) ∙ ap (λ n. n * b) (div-mul_cancel (gcd_of a b) (gcd_is a b).0)

  lcm_left : a ∣ lcm_of a b
  lcm_left = dvd_of_mul-dvd-mul_right {k = gcd_of a b} a gcd_some (subst (λ n. a * gcd_of a b ∣ n) (sym lcm_gcd) (mul-dvd-mul_left (gcd_of a b) a (gcd_is a b).1))

  lcm_right : b ∣ lcm_of a b
  unfolding lcm_of
  lcm_right = dvd-mul_left b (a / gcd_of a b)

  lcm_least : (n : ℕ) → a ∣ n → b ∣ n → lcm_of a b ∣ n
  lcm_least n h k =
      let left : a * b ∣ n * a = subst (λ m. m ∣ n * a) (mul_comm b a) (mul-dvd-mul_right b k a) in
      let both : a * b ∣ n * gcd_of a b = subst (λ m. a * b ∣ m) (gcd_scale n a b) ((gcd_is (n * a) (n * b)).2 (a * b) left (mul-dvd-mul_right a h b)) in
      dvd_of_mul-dvd-mul_right {k = gcd_of a b} (lcm_of a b) gcd_some (subst (λ m. m ∣ n * gcd_of a b) (sym lcm_gcd) both)

  pub lcm_some : 0 < a → 0 < lcm_of a b
  lcm_some h = pos_of_dvd_of_pos {n = a * b} (subst (λ n. lcm_of a b ∣ n) lcm_gcd (dvd-mul_right (lcm_of a b) (gcd_of a b))) (mul-pos h some)

  -- the least common multiple is a multiple of both
  pub lcm_first : lcm_of a b % a ≡ 0
  lcm_first = mod-eq-zero_of_dvd a lcm_left

  pub lcm_second : lcm_of a b % b ≡ 0
  lcm_second = mod-eq-zero_of_dvd b lcm_right

  -- every common multiple is a multiple of the least
  pub lcm_divides : (n : ℕ) → n % a ≡ 0 → n % b ≡ 0 → n % lcm_of a b ≡ 0
  lcm_divides n h k = mod-eq-zero_of_dvd (lcm_of a b) (lcm_least n (dvd_of_mod-eq-zero a h) (dvd_of_mod-eq-zero b k))

-- the laws by which a span is computed
pub span_from_nil : (m : ℕ) → span_from m [] ≡ m
unfolding span_from
span_from_nil m = refl

pub span_from_cons : (m p : ℕ) (ps : List ℕ) → span_from m (p ∷ ps) ≡ span_from (lcm_of m p) ps
unfolding span_from
span_from_cons m p ps = refl

pub span_from-append : (m : ℕ) (ps qs : List ℕ) → span_from m (ps ++ qs) ≡ span_from (span_from m ps) qs
unfolding span_from
span_from-append m [] qs = refl
span_from-append m (p ∷ ps) qs = span_from-append (lcm_of m p) ps qs

pub span_is : (ps : List ℕ) → span_of ps ≡ span_from 1 ps
unfolding span_of
span_is ps = refl

pub span_nil : span_of [] ≡ 1
unfolding span_of span_from
span_nil = refl

-- the span that begins at m is above 0, a multiple of m and of each period
span_from_some : (m : ℕ) (ps : List ℕ) → 0 < m → Positive ps → 0 < span_from m ps
unfolding span_from
span_from_some m [] h all = h
span_from_some m (p ∷ ps) h all = span_from_some (lcm_of m p) ps (lcm_some m p all.0 h) all.1

span_from-start : (m : ℕ) (ps : List ℕ) → Positive ps → m ∣ span_from m ps
unfolding span_from
span_from-start m [] all = dvd_refl m
span_from-start m (p ∷ ps) all = dvd_trans m (lcm_left m p all.0) (span_from-start (lcm_of m p) ps all.1)

span_from_common : (m : ℕ) (ps : List ℕ) → Positive ps → CommonMultiple ps (span_from m ps)
unfolding span_from
span_from_common m [] all = tt
span_from_common m (p ∷ ps) all =
    (mod-eq-zero_of_dvd p (dvd_trans p (lcm_right m p all.0) (span_from-start (lcm_of m p) ps all.1)), span_from_common (lcm_of m p) ps all.1)

-- and divides whatever m and each period divide
span_from_divides : (m : ℕ) (ps : List ℕ) (n : ℕ) → Positive ps → m ∣ n → CommonMultiple ps n → span_from m ps ∣ n
unfolding span_from
span_from_divides m [] n all h k = h
span_from_divides m (p ∷ ps) n all h k =
    span_from_divides (lcm_of m p) ps n all.1 (lcm_least m p all.0 n h (dvd_of_mod-eq-zero p k.0)) k.1

-- a running span never falls
pub span_from_grows : (m : ℕ) (ps : List ℕ) → 0 < m → Positive ps → m ≤ span_from m ps
span_from_grows m ps h all = le_of_dvd (span_from_some m ps h all) (span_from-start m ps all)

-- the span of a list of periods
module _ (ps : List ℕ) (all : Positive ps) where
  pub span_some : 0 < span_of ps
  unfolding span_of
  span_some = span_from_some 1 ps (omega arith) all

  pub span_common : CommonMultiple ps (span_of ps)
  unfolding span_of
  span_common = span_from_common 1 ps all

  -- every common multiple is a multiple of the span
  pub span_divides : (n : ℕ) → CommonMultiple ps n → n % span_of ps ≡ 0
  unfolding span_of
  span_divides n h = mod-eq-zero_of_dvd (span_from 1 ps) (span_from_divides 1 ps n all (one-dvd n) h)

  pub span_least : LeastCommonMultiple ps (span_of ps)
  span_least = record { some = span_some; common = span_common; least = λ n h k. le_of_dvd h (dvd_of_mod-eq-zero (span_of ps) (span_divides n k)) }

  pub span_member : (p : ℕ) → Contains ps p → span_of ps % p ≡ 0
  span_member p h = All-contains (λ q. span_of ps % q ≡ 0) ps p (All-from_recursion (λ q. span_of ps % q ≡ 0) ps span_common) h

-- two numbers that are least common multiples of one list are equal
pub least_same : (ps : List ℕ) (m n : ℕ) → LeastCommonMultiple ps m → LeastCommonMultiple ps n → m ≡ n
least_same ps m n a b = omega (arith, a.least n b.some b.common, b.least m a.some a.common)

positive_front : (ps qs : List ℕ) → Positive (ps ++ qs) → Positive ps
positive_front [] qs all = tt
positive_front (p ∷ ps) qs all = (all.0, positive_front ps qs all.1)

positive_back : (ps qs : List ℕ) → Positive (ps ++ qs) → Positive qs
positive_back [] qs all = all
positive_back (p ∷ ps) qs all = positive_back ps qs all.1

-- the span of a front is no greater
pub span_prefix : (ps qs : List ℕ) → Positive (ps ++ qs) → span_of ps ≤ span_of (ps ++ qs)
unfolding span_of
span_prefix ps qs all =
    subst (λ n. span_of ps ≤ n) (sym (span_from-append 1 ps qs))
    (span_from_grows (span_of ps) qs (span_some ps (positive_front ps qs all)) (positive_back ps qs all))

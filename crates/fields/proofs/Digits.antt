-- The digits of a number, and their value. Assumes nothing.
use Rattle.std.proofs.Common.{◌≡◌, ℕ, zero, suc, ◌+◌, ◌-◌, ◌*◌, ◌^◌, ◌<◌, ◌≤◌, List, [], ◌∷◌, None, sym, refl, ap, ◌∙◌, subst, pow-suc, add-one, arith, rules}
use Rattle.std.specs.List.{All}
use Rattle.std.specs.Str.{IsUtf8}
use Rattle.std.proofs.lemmas.List.Elements.{All-nil, All-cons, All-head, All-tail, All-weaker}
use Rattle.std.proofs.lemmas.Str.Parse.{IsNumeralModel, numerals_by_fold, digits_value_short}
use Rattle.std.proofs.lemmas.Str.{IsUtf8-from_ascii}
use Rattle.std.proofs.lemmas.Str.Ascii.{IsAscii-from_all}
use Rattle.grammar.specs.Forms.{Run, IsDigit, IsNumber}
use Rattle.reader.specs.Progress.{number_refusal}
use Rattle.reader.proofs.Settling.{number_fits}
use Rattle.fields.specs.Wanted.{value_from, value}

pub is_number : (ds : List ℕ) → Run IsDigit ds → None ≡ number_refusal ds 0 → IsNumber ds
is_number [] r e = omega (arith, r.0)
is_number (d ∷ []) r e = (All-head IsDigit d [] r.1, All-nil IsDigit, omega arith, λ h. refl)
is_number (d ∷ (c ∷ ds)) r e =
    let f = number_fits (d ∷ (c ∷ ds)) 0 e in
    (All-head IsDigit d (c ∷ ds) r.1, All-tail IsDigit d (c ∷ ds) r.1, omega (arith, f.0), λ h. absurd (f.1 (omega arith) h))

-- the value of digits as the library reads it
pub numerals : IsNumeralModel (All IsDigit) value
numerals = numerals_by_fold (All IsDigit) (record { empty = All-nil IsDigit; parts = λ c cs h. (All-head IsDigit c cs h, All-tail IsDigit c cs h); more = λ c cs. All-cons IsDigit c cs }) value_from (search rules)

pub plain : (ds : List ℕ) → Run IsDigit ds → IsUtf8 ds
plain ds r = IsUtf8-from_ascii ds (IsAscii-from_all ds (All-weaker IsDigit (λ c. c < 128) (λ c h. omega (arith, h.1)) ds r.1))

pub small : (ds : List ℕ) → Run IsDigit ds → None ≡ number_refusal ds 0 → value ds < 2 ^ 32
small ds r e = omega (arith, digits_value_short numerals ds 7 r.1 (number_fits ds 0 e).0)

-- seven digits fit

pub ten_more : (n : ℕ) → 10 ^ (n + 1) ≡ 10 ^ n * 10
ten_more n = ap (λ m. 10 ^ m) (add-one n) ∙ pow-suc 10 n

tens : (n : ℕ) → 0 < 10 ^ n
tens zero = omega arith
tens (suc n) = omega (arith, tens n, pow-suc 10 n)

pub ten_room : (n : ℕ) → n < 7 → 10 ^ n ≤ 1000000
ten_room n h = up n (6 - n) (omega arith)
  where
    up : (n k : ℕ) → n + k ≡ 6 → 10 ^ n ≤ 1000000
    up n zero e = let z : n ≡ 6 = omega arith in subst (λ m. 10 ^ m ≤ 1000000) (sym z) (omega arith)
    up n (suc k) e = let h = up (n + 1) k (omega arith) in omega (arith, ten_more n, tens n)

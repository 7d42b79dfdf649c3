-- The kinds of bytes, and single steps. Assumes nothing.
use Rattle.std.proofs.Common.{◌≡◌, ℕ, ◌<◌, ◌≤◌, false, cond, eqb, ltb, ◌⊎◌, Some, None, Option, arith}
use Rattle.std.proofs.lemmas.Bool.Decides.{nat_tests}
use Rattle.grammar.specs.Kinds.{kind}
use Rattle.grammar.specs.Forms.{IsLetter, IsDigit}
use Rattle.grammar.specs.declared.kind.Kind.TheVariants as kinds

pub is_open : (c : ℕ) → kind c ≡ kinds.Open → c ≡ 40
is_open c h = grind (arith, nat_tests)

pub is_close : (c : ℕ) → kind c ≡ kinds.Close → c ≡ 41
is_close c h = grind (arith, nat_tests)

pub is_space : (c : ℕ) → kind c ≡ kinds.Space → c ≡ 32
is_space c h = grind (arith, nat_tests)

pub is_feed : (c : ℕ) → kind c ≡ kinds.LineFeed → c ≡ 10
is_feed c h = grind (arith, nat_tests)

pub is_letter : (c : ℕ) → kind c ≡ kinds.Letter → IsLetter c
is_letter c h = (grind (arith, nat_tests), grind (arith, nat_tests))

pub is_zero : (c : ℕ) → kind c ≡ kinds.Zero → c ≡ 48
is_zero c h = grind (arith, nat_tests)

pub is_digit : (c : ℕ) → kind c ≡ kinds.Digit → (49 ≤ c) × (c ≤ 57)
is_digit c h = (grind (arith, nat_tests), grind (arith, nat_tests))

pub letter_kind : (c : ℕ) → IsLetter c → kind c ≡ kinds.Letter
letter_kind c (a, b) = grind (arith, nat_tests)

pub figure_kind : (c : ℕ) → IsDigit c → (kind c ≡ kinds.Zero) ⊎ (kind c ≡ kinds.Digit)
figure_kind c (a, b) = grind (arith, nat_tests)

-- one value of an option
pub some_is : {X : Type 0} {x y : X} → Some x ≡ Some y → x ≡ y
some_is e = cc

pub none_some : {X : Type 0} {x : X} → None ≡ Some x → ⊥
none_some e = cc

-- tests

pub zero_no : (n : ℕ) → 0 < n → eqb n 0 ≡ false
zero_no n h = grind (arith, nat_tests)

pub taken : {X : Type 0} (m n : ℕ) {x y : X} → cond (ltb m n) (Some x) None ≡ Some y → (m < n) × (x ≡ y)
taken m n {x} {y} e = (grind (arith, nat_tests), grind (arith, nat_tests))

pub left_out : {X : Type 0} (m n : ℕ) (x : X) → cond (ltb m n) (Some x) None ≡ None → n ≤ m
left_out m n x e = grind (arith, nat_tests)

pub not_zero : {X : Type 0} (n : ℕ) (o : Option X) {y : X} → cond (eqb n 0) None o ≡ Some y → (0 < n) × (o ≡ Some y)
not_zero n o {y} e = (grind (arith, nat_tests), grind (arith, nat_tests))

pub only_zero : {X : Type 0} (n : ℕ) {x y : X} → cond (eqb n 0) (Some x) None ≡ Some y → (n ≡ 0) × (x ≡ y)
only_zero n {x} {y} e = (grind (arith, nat_tests), grind (arith, nat_tests))

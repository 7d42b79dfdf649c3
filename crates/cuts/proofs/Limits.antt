-- The test of a limit says what the limit says. Assumes nothing.
use Rattle.std.proofs.Common.{◌≡◌, ℕ, true, false, List, [], ◌∷◌, Some, None, Option, refl, arith}
use Rattle.std.specs.List.{AllByRecursion}
use Rattle.std.proofs.lemmas.Bool.{leb-true, leb-false, le-leb, and_from}
use Rattle.tasks.specs.Tasks.{every}
use Rattle.cuts.proofs.Ranges.{every_true}
use Rattle.cuts.specs.Allowed.{Within, within}

pub within_true : (limit : Option ℕ) (n : ℕ) → within limit n ≡ true → Within limit n
within_true None n e = tt
within_true (Some l) n e = leb-true n l e

pub within_false : (limit : Option ℕ) (n : ℕ) → within limit n ≡ false → Within limit n → ⊥
within_false None n e w = cc
within_false (Some l) n e w = omega (arith, leb-false n l e)

pub within_test : (limit : Option ℕ) (n : ℕ) → Within limit n → within limit n ≡ true
within_test None n w = refl
within_test (Some l) n w = le-leb n l w

pub every-within_true : (limit : Option ℕ) (ns : List ℕ) → every (within limit) ns ≡ true → AllByRecursion (Within limit) ns
every-within_true limit = every_true (Within limit) (within limit) (within_true limit)

pub every-within_test : (limit : Option ℕ) (ns : List ℕ) → AllByRecursion (Within limit) ns → every (within limit) ns ≡ true
every-within_test limit [] a = refl
every-within_test limit (n ∷ ns) a = and_from (within limit n) (every (within limit) ns) (within_test limit n a.0) (every-within_test limit ns a.1)

pub every-within_false : (limit : Option ℕ) (ns : List ℕ) → every (within limit) ns ≡ false → AllByRecursion (Within limit) ns → ⊥
every-within_false limit ns e a = cc (every-within_test limit ns a)

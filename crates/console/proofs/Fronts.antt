-- The bytes that a reader with a limit gives. Assumes nothing.
use Rattle.std.proofs.Common.{◌≡◌, ℕ, List, [], ◌++◌, take, Some, None, Option, ap, ◌∙◌, subst}
use Rattle.std.specs.Prelude.{IfSome}
use Rattle.std.specs.Option.{option_map}
use Rattle.std.specs.declared.io.traits.Take.{Take}
use Rattle.std.specs.Io.Take.{take_limit, take_inner, take_remaining}

front : (o : Option (List ℕ)) (n : ℕ) (was xs : List ℕ) → was ≡ [] → IfSome (option_map (take n) o) (λ bs. xs ≡ was ++ bs) → IfSome o (λ bs. xs ≡ take n bs)
front None n was xs e h = h
front (Some bs) n was xs e h = h ∙ ap (λ l. l ++ take n bs) e

pub known_front : {R : Type 0} (remaining : R → Option (List ℕ)) (t : Take R) (from : R) (n : ℕ) (was xs : List ℕ) → take_limit t ≡ n → take_inner t ≡ from → was ≡ [] → IfSome (take_remaining remaining t) (λ bs. xs ≡ was ++ bs) → IfSome (remaining from) (λ bs. xs ≡ take n bs)
known_front {R} remaining t from n was xs limit inner none h =
    subst (λ (r : R). IfSome (remaining r) (λ bs. xs ≡ take n bs)) inner
    (subst (λ (k : ℕ). IfSome (remaining t.inner) (λ bs. xs ≡ take k bs)) limit (front (remaining t.inner) t.limit was xs none h))

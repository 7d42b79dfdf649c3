-- What a push, an insertion and an extension leave where there is room. Assumes nothing.
use Rattle.std.proofs.Common.{◌≡◌, ℕ, ◌+◌, ◌<◌, ◌≤◌, ◌↔◌, List, [], ◌∷◌, ◌++◌, length, Ok, Err, Result, IsOk, OnOk, refl}
use Rattle.std.proofs.lemmas.Bool.{iff_false}
use Rattle.std.specs.List.{insert}

-- an answer that comes where there is room says what it says of success
sure : {E R A : Type 0} (r : Result (Unit {0}) E) → OnOk r A → (IsOk r ↔ R) → R → A
sure (Ok u) is when room = is
sure (Err e) is when room = elim (iff_false when refl room) [ ]

pub pushed : {X E : Type 0} (xs ys : List X) (x : X) (n : ℕ) (r : Result (Unit {0}) E) → OnOk r (ys ≡ xs ++ x ∷ []) → (IsOk r ↔ (length xs < n)) → length xs < n → ys ≡ xs ++ x ∷ []
pushed xs ys x n r is when room = sure r is when room

pub extended : {X E : Type 0} (xs more ys : List X) (n : ℕ) (r : Result (Unit {0}) E) → OnOk r (ys ≡ xs ++ more) → (IsOk r ↔ (length xs + length more ≤ n)) → length xs + length more ≤ n → ys ≡ xs ++ more
extended xs more ys n r is when room = sure r is when room

pub inserted_there : {X E : Type 0} (xs ys : List X) (i : ℕ) (x : X) (n : ℕ) (r : Result (Unit {0}) E) → OnOk r (ys ≡ insert xs i x) → (IsOk r ↔ (length xs < n)) → length xs < n → ys ≡ insert xs i x
inserted_there xs ys i x n r is when room = sure r is when room

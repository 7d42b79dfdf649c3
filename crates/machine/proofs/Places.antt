-- What holds at each place of a list. Assumes nothing.
use Rattle.std.proofs.Common.{◌≡◌, ℕ, zero, suc, ◌+◌, ◌<◌, ◌≤◌, List, [], ◌∷◌, map, Some, sym, subst, arith}
use Rattle.std.specs.List.{AllByRecursion, slice_get}
use Rattle.machine.specs.declared.types.Slot.{Slot}
use Rattle.machine.specs.Slots.{change_at}
use Rattle.machine.specs.Law.{Places}
use Rattle.machine.proofs.Sums.{Change, here, there}

module _ {X : Type 0} where
  pub places_of : (P Q : ℕ → X → Type 0) (p : ℕ) → ((q : ℕ) (x : X) → p ≤ q → P q x → Q q x) → (xs : List X) → Places P p xs → Places Q p xs
  places_of P Q p e [] a = tt
  places_of P Q p e (x ∷ xs) a = (e p x (omega arith) a.0, places_of P Q (suc p) (λ q y l. e q y (omega arith)) xs a.1)

  pub places_both : (P Q : ℕ → X → Type 0) (p : ℕ) (xs : List X) → Places P p xs → Places Q p xs → Places (λ q x. P q x × Q q x) p xs
  places_both P Q p [] a b = tt
  places_both P Q p (x ∷ xs) a b = ((a.0, b.0), places_both P Q (suc p) xs a.1 b.1)

  pub places-every : (P : ℕ → ℕ → X → Type 0) (p : ℕ) (xs : List X) → ((c : ℕ) → Places (P c) p xs) → Places (λ q x. (c : ℕ) → P c q x) p xs
  places-every P p [] a = tt
  places-every P p (x ∷ xs) a = (λ c. (a c).0, places-every P (suc p) xs (λ c. (a c).1))

  pub all_places : (P : X → Type 0) (p : ℕ) (xs : List X) → AllByRecursion P xs → Places (λ q x. P x) p xs
  all_places P p [] a = tt
  all_places P p (x ∷ xs) a = (a.0, all_places P (suc p) xs a.1)

  pub places_any : (P : ℕ → X → Type 0) → ((q : ℕ) (x : X) → P q x) → (p : ℕ) (xs : List X) → Places P p xs
  places_any P e p [] = tt
  places_any P e p (x ∷ xs) = (e p x, places_any P e (suc p) xs)

  pub places_change : (P : ℕ → X → Type 0) (Q : X → Type 0) (g : X → X) → ((q : ℕ) (x : X) → P q x → P q (g x)) → (p : ℕ) {xs ys : List X} → Places P p xs → Change Q g xs ys → Places P p ys
  places_change P Q g e p a (here {x} c) = (e p x a.0, a.1)
  places_change P Q g e p a (there ch) = (a.0, places_change P Q g e (suc p) a.1 ch)

  -- a fact of the element at an index, read by place
  places_later : (R : X → Type 0) (n p : ℕ) (xs : List X) → n < p → Places (λ q x. q ≡ n → R x) p xs
  places_later R n p [] l = tt
  places_later R n p (x ∷ xs) l = (λ h. absurd (omega arith), places_later R n (suc p) xs (omega arith))

  pub places_nth : (R : X → Type 0) (i p : ℕ) (xs : List X) (x : X) → slice_get xs i ≡ Some x → R x → Places (λ q y. q ≡ p + i → R y) p xs
  places_nth R i p [] x e r = tt
  places_nth R zero p (y ∷ xs) x e r = let same : y ≡ x = cc in (λ _. subst R (sym same) r, places_later R (p + 0) (suc p) xs (omega arith))
  places_nth R (suc i) p (y ∷ xs) x e r = (λ h. absurd (omega arith), places_of (λ q z. q ≡ suc p + i → R z) (λ q z. q ≡ p + suc i → R z) (suc p) (λ q z _ f h. f (omega arith)) xs (places_nth R i (suc p) xs x e r))

pub places-map : {X Y : Type 0} (P : ℕ → X → Type 0) (Q : ℕ → Y → Type 0) (f : X → Y) → ((q : ℕ) (x : X) → P q x → Q q (f x)) → (p : ℕ) (xs : List X) → Places P p xs → Places Q p (map f xs)
places-map P Q f e p [] a = tt
places-map P Q f e p (x ∷ xs) a = (e p x a.0, places-map P Q f e (suc p) xs a.1)

-- a change at one index: what holds there after it, and what holds elsewhere
pub places_at : (P Q : ℕ → Slot → Type 0) (f : Slot → Slot) (i p : ℕ) → ((q : ℕ) (s : Slot) → q ≡ p + i → P q s → Q q (f s)) → ((q : ℕ) (s : Slot) → (q ≡ p + i → ⊥) → P q s → Q q s) → (ss : List Slot) → Places P p ss → Places Q p (change_at i f ss)
places_at P Q f i p e n [] a = tt
places_at P Q f zero p e n (s ∷ ss) a = (e p s (omega arith) a.0, places_of P Q (suc p) (λ q x l. n q x (λ h. omega arith)) ss a.1)
places_at P Q f (suc i) p e n (s ∷ ss) a = (n p s (λ h. omega arith) a.0, places_at P Q f i (suc p) (λ q x h. e q x (omega arith)) (λ q x h. n q x (λ k. h (omega arith))) ss a.1)

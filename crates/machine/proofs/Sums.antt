-- Sums over a list, numbers that count under a test only, a change at one place, and a map. Assumes nothing.
use Rattle.std.proofs.Common.{◌≡◌, ℕ, ◌+◌, ◌≤◌, Bool, true, false, cond, List, [], ◌∷◌, ◌++◌, map, sym, refl, ap, ◌∙◌, arith}
use Rattle.std.specs.List.{AllByRecursion}
use Rattle.std.proofs.ByRecursion.{All-map, All-weaker}
use Rattle.std.proofs.lemmas.Bool.{cond-true}

-- the sum from the right, which omega can take apart
abbrev pub sum_of : {X : Type 0} → (X → ℕ) → List X → ℕ
sum_of f [] = 0
sum_of f (x ∷ xs) = f x + sum_of f xs

-- numbers that count under a test only
pub guard_le : (b : Bool) (x y : ℕ) → x ≤ y → cond b x 0 ≤ cond b y 0
guard_le true x y h = h
guard_le false x y h = omega arith

pub guard_when : (b : Bool) (x y : ℕ) → (b ≡ true → x ≤ y) → cond b x 0 ≤ cond b y 0
guard_when true x y h = h refl
guard_when false x y h = omega arith

pub guard_bound : (b : Bool) (x y : ℕ) → x ≤ y → cond b x 0 ≤ y
guard_bound true x y h = h
guard_bound false x y h = omega arith

pub guard_split : (b : Bool) (x y z : ℕ) → x ≤ y + z → cond b x 0 ≤ cond b y 0 + cond b z 0
guard_split true x y z h = h
guard_split false x y z h = omega arith

pub guard_joined : (b : Bool) (x y z : ℕ) → x + y ≤ z → cond b x 0 + cond b y 0 ≤ cond b z 0
guard_joined true x y z h = h
guard_joined false x y z h = omega arith

pub guard_open : (b : Bool) (x n : ℕ) → cond b x 0 ≡ n → b ≡ true → x ≡ n
guard_open b x n e t = sym (cond-true b x 0 t) ∙ e

pub guard_none : (b : Bool) (n : ℕ) → ◌≡◌ {A = ℕ} (cond b 1 0) 0 → cond b n 0 ≡ 0
guard_none true n e = omega arith
guard_none false n e = refl

module _ {X : Type 0} where
  -- sums of what is mapped, element by element
  pub map-sum : (P : X → Type 0) (g : X → X) (f h k : X → ℕ) → ((x : X) → P x → f (g x) + h x ≤ k x) → (xs : List X) → AllByRecursion P xs → sum_of f (map g xs) + sum_of h xs ≤ sum_of k xs
  map-sum P g f h k e [] a = omega arith
  map-sum P g f h k e (x ∷ xs) a = omega (arith, e x a.0, map-sum P g f h k e xs a.1)

  pub map_le : (P : X → Type 0) (g : X → X) (f k : X → ℕ) → ((x : X) → P x → f (g x) ≤ k x) → (xs : List X) → AllByRecursion P xs → sum_of f (map g xs) ≤ sum_of k xs
  map_le P g f k e [] a = omega arith
  map_le P g f k e (x ∷ xs) a = omega (arith, e x a.0, map_le P g f k e xs a.1)

  pub sum_split : (P : X → Type 0) (f h k : X → ℕ) → ((x : X) → P x → f x ≤ h x + k x) → (xs : List X) → AllByRecursion P xs → sum_of f xs ≤ sum_of h xs + sum_of k xs
  sum_split P f h k e [] a = omega arith
  sum_split P f h k e (x ∷ xs) a = omega (arith, e x a.0, sum_split P f h k e xs a.1)

  pub map_all : (P Q : X → Type 0) (g : X → X) → ((x : X) → P x → Q (g x)) → (xs : List X) → AllByRecursion P xs → AllByRecursion Q (map g xs)
  map_all P Q g e xs a = All-map Q g xs (All-weaker P (λ x. Q (g x)) e xs a)

  pub all_right : (P : X → Type 0) (xs ys : List X) → AllByRecursion P (xs ++ ys) → AllByRecursion P ys
  all_right P [] ys a = a
  all_right P (x ∷ xs) ys a = all_right P xs ys a.1

  -- what holds of each element that counts at most the sum, whatever is counted
  pub all_from : (P Q : X → Type 0) (xs : List X) → AllByRecursion P xs → ((x : X) → P x → ((f : X → ℕ) → f x ≤ sum_of f xs) → Q x) → AllByRecursion Q xs
  all_from P Q [] a e = tt
  all_from P Q (x ∷ xs) a e = (e x a.0 (λ f. omega arith), all_from P Q xs a.1 (λ y p m. e y p (λ f. omega (arith, m f))))

-- the second list is the first with g applied to one element, of which Q holds
pub data Change {X : Type 0} (Q : X → Type 0) (g : X → X) : List X → List X → Type 0 where
  here : {x : X} {xs : List X} → Q x → Change Q g (x ∷ xs) (g x ∷ xs)
  there : {x : X} {xs ys : List X} → Change Q g xs ys → Change Q g (x ∷ xs) (x ∷ ys)

module _ {X : Type 0} (P Q : X → Type 0) (g : X → X) where
  pub change_le : (f : X → ℕ) (a b : ℕ) → ((x : X) → P x → Q x → f (g x) + a ≤ f x + b) → {xs ys : List X} → AllByRecursion P xs → Change Q g xs ys → sum_of f ys + a ≤ sum_of f xs + b
  change_le f a b e ps (here {x} q) = omega (arith, e x ps.0 q)
  change_le f a b e ps (there ch) = omega (arith, change_le f a b e ps.1 ch)

  pub change_ge : (f : X → ℕ) (a b : ℕ) → ((x : X) → P x → Q x → f x + a ≤ f (g x) + b) → {xs ys : List X} → AllByRecursion P xs → Change Q g xs ys → sum_of f xs + a ≤ sum_of f ys + b
  change_ge f a b e ps (here {x} q) = omega (arith, e x ps.0 q)
  change_ge f a b e ps (there ch) = omega (arith, change_ge f a b e ps.1 ch)

  -- the change adds at most what h counts
  pub change_add : (f h : X → ℕ) → ((x : X) → P x → Q x → f (g x) ≤ f x + h x) → {xs ys : List X} → AllByRecursion P xs → Change Q g xs ys → sum_of f ys ≤ sum_of f xs + sum_of h xs
  change_add f h e ps (here {x} q) = omega (arith, e x ps.0 q)
  change_add f h e ps (there ch) = omega (arith, change_add f h e ps.1 ch)

  pub change_all : ((x : X) → P x → Q x → P (g x)) → {xs ys : List X} → AllByRecursion P xs → Change Q g xs ys → AllByRecursion P ys
  change_all e a (here {x} q) = (e x a.0 q, a.1)
  change_all e a (there ch) = (a.0, change_all e a.1 ch)

-- where f is unchanged by g, so is its map
module _ {X Y : Type 0} (f : X → Y) (g : X → X) (same : (x : X) → f (g x) ≡ f x) where
  pub change_map : (Q : X → Type 0) {xs ys : List X} → Change Q g xs ys → map f ys ≡ map f xs
  change_map Q (here {x} {xs} q) = ap (λ y. y ∷ map f xs) (same x)
  change_map Q (there {x} ch) = ap (λ l. f x ∷ l) (change_map Q ch)

  pub map-map : (xs : List X) → map f (map g xs) ≡ map f xs
  map-map [] = refl
  map-map (x ∷ xs) = λ i. same x i ∷ map-map xs i

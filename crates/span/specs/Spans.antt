-- The span of a list of periods: their least common multiple.
use Rattle.std.specs.Prelude.{◌≡◌, ℕ, zero, suc, ◌*◌, ◌/◌, ◌%◌, ◌<◌, ◌≤◌, ◌⊎◌, List, [], ◌∷◌, Some, None, Option}
use Rattle.std.specs.List.{Contains, AllByRecursion}

-- Euclid's algorithm, in at most so many steps
unfoldable pub gcd_by : ℕ → ℕ → ℕ → ℕ
gcd_by zero a b = a
gcd_by (suc n) a zero = a
gcd_by (suc n) a (suc b) = gcd_by n (suc b) (a % suc b)

-- the greatest common divisor of two numbers
unfoldable pub gcd_of : ℕ → ℕ → ℕ
gcd_of a b = gcd_by b a b

-- the least common multiple of two numbers above 0
unfoldable pub lcm_of : ℕ → ℕ → ℕ
lcm_of a b = a / gcd_of a b * b

-- the least common multiple of m and of every number of a list
unfoldable pub span_from : ℕ → List ℕ → ℕ
span_from m [] = m
span_from m (p ∷ ps) = span_from (lcm_of m p) ps

-- the span of a list of periods, 1 of none
unfoldable pub span_of : List ℕ → ℕ
span_of ps = span_from 1 ps

-- every number of the list is above 0
abbrev pub Positive : List ℕ → Type 0
Positive ps = AllByRecursion (λ p. 0 < p) ps

-- every number of the list divides m
abbrev pub CommonMultiple : List ℕ → ℕ → Type 0
CommonMultiple ps m = AllByRecursion (λ p. m % p ≡ 0) ps

-- m is above 0, a common multiple, and no greater than any other above 0
pub record LeastCommonMultiple (ps : List ℕ) (m : ℕ) : Type 0 where
  pub some : 0 < m
  pub common : CommonMultiple ps m
  pub least : (n : ℕ) → 0 < n → CommonMultiple ps n → m ≤ n

-- m is the span of periods above 0, and at most a million
pub record Spanned (ps : List ℕ) (m : ℕ) : Type 0 where
  pub positive : Positive ps
  pub is : m ≡ span_of ps
  pub within : m ≤ 1000000
  pub least : LeastCommonMultiple ps m

-- what is answered for a list of numbers: its span, or none where a number is 0 or the span is above a million
abbrev pub SpanWithin : List ℕ → Option ℕ → Type 0
SpanWithin ps (Some m) = Spanned ps m
SpanWithin ps None = Contains ps 0 ⊎ (1000000 < span_of ps)

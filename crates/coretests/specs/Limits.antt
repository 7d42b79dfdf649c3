-- How long a region may be: a number of ticks, or `None` where nothing bounds it. `None` is longer than every number.
use Rattle.std.specs.Prelude.{ℕ, zero, suc, ◌+◌, ◌≤◌, min, Bool, cond, Some, None, Option}

-- The lesser of two limits.
abbrev pub lesser : Option ℕ → Option ℕ → Option ℕ
lesser None b = b
lesser (Some a) None = Some a
lesser (Some a) (Some b) = Some (min a b)

-- The first limit is no longer than the second.
abbrev pub AtMost : Option ℕ → Option ℕ → Type 0
AtMost a None = Unit {0}
AtMost None (Some b) = ⊥
AtMost (Some a) (Some b) = a ≤ b

-- The least of the `count` values f start, f (start + 1) and so on, and `None` where there is no value.
abbrev pub least : (ℕ → ℕ) → ℕ → ℕ → Option ℕ
least f start zero = None
least f start (suc count) = lesser (least f start count) (Some (f (start + count)))

-- The greatest number below n that passes the test, and `None` where none does.
abbrev pub greatest_below : (ℕ → Bool) → ℕ → Option ℕ
greatest_below test zero = None
greatest_below test (suc n) = cond (test n) (Some n) (greatest_below test n)

-- What a layer makes of the test below it.
use Rattle.std.specs.Prelude.{◌≡◌, ℕ, ◌+◌, ◌-◌, min, max, true, cond, List, map, Some, None, Option}
use Rattle.coretests.specs.declared.entry.Entry.{Entry}
use Rattle.coretests.specs.Limits.{lesser}
use Rattle.coretests.specs.Entries.{sound}

-- A setting, moved to the nearer end of its range where it is outside.
abbrev pub clamped : ℕ → ℕ → ℕ → ℕ
clamped low high n = max low (min n high)

-- The limit under a cap: the lesser of the cap and the limit below.
abbrev pub capped : ℕ → Option ℕ → Option ℕ
capped c below = lesser below (Some c)

-- A cap accepts what the test below accepts.
abbrev pub CapAccepts : (List Entry → Type 0) → List Entry → Type 0
CapAccepts below xs = below xs

-- The limit of a cap c over a test.
abbrev pub cap_limit : ℕ → (List Entry → ℕ → Option ℕ) → List Entry → ℕ → Option ℕ
cap_limit c below xs d = capped c (below xs d)

-- An entry with its load raised by h.
abbrev pub raise : ℕ → Entry → Entry
raise h e = record { period = e.period; deadline = e.deadline; load = e.load + h }

-- A list with every load raised by h.
abbrev pub raised : ℕ → List Entry → List Entry
raised h xs = map (raise h) xs

-- A limit less h, never under 0; `None` remains `None`.
abbrev pub lessened : ℕ → Option ℕ → Option ℕ
lessened h None = None
lessened h (Some a) = Some (a - h)

-- The limit under a handover: 0 for an unsound list, and else the limit below of the raised list, less h.
unfoldable pub handed_over : ℕ → (List Entry → Option ℕ) → List Entry → Option ℕ
handed_over h below xs = cond (sound xs) (lessened h (below (raised h xs))) (Some 0)

-- A handover accepts a sound list that the test below accepts with every load raised by h.
abbrev pub HandoverAccepts : ℕ → (List Entry → Type 0) → List Entry → Type 0
HandoverAccepts h below xs = (sound xs ≡ true) × below (raised h xs)

-- The limit of a handover h over a test.
abbrev pub handover_limit : ℕ → (List Entry → ℕ → Option ℕ) → List Entry → ℕ → Option ℕ
handover_limit h below xs d = handed_over h (λ ys. below ys d) xs

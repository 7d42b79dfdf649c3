-- Which lists of entries are sound, and how two of them compare.
use Rattle.std.specs.Prelude.{◌≡◌, ℕ, ◌≤◌, Bool, true, cond, ◌&&◌, List, [], ◌∷◌, map, length, Some, Option, nat_le}
use Rattle.std.specs.List.{AllZip}
use Rattle.span.specs.Spans.{span_of}
use Rattle.coretests.specs.declared.entry.Entry.{Entry}

-- A number is from low to high.
abbrev pub between : ℕ → ℕ → ℕ → Bool
between low high n = nat_le low n && nat_le n high

-- The period is from 1 to 1_000_000, the deadline from 1 to the period, and the load at most 1_000_000_000.
abbrev pub in_range : Entry → Bool
in_range e = between 1 1000000 e.period && (between 1 e.period e.deadline && nat_le e.load 1000000000)

-- Every entry is in range, and no deadline is less than d or than the deadline in front of it.
abbrev pub ordered_from : ℕ → List Entry → Bool
ordered_from d [] = true
ordered_from d (e ∷ es) = in_range e && (nat_le d e.deadline && ordered_from e.deadline es)

-- The periods of the entries.
abbrev pub periods : List Entry → List ℕ
periods xs = map (λ e. e.period) xs

-- A list is sound: at most 24 entries, in range and in order of deadline, with a span of at most 1_000_000.
unfoldable pub sound : List Entry → Bool
sound xs = nat_le (length xs) 24 && (ordered_from 0 xs && nat_le (span_of (periods xs)) 1000000)

-- The second entry is the first with a load that is no greater.
pub record LighterEntry (x y : Entry) : Type 0 where
  pub period : y.period ≡ x.period
  pub deadline : y.deadline ≡ x.deadline
  pub load : y.load ≤ x.load

-- The two lists differ only in loads, and no load of the second is greater.
abbrev pub Lighter : List Entry → List Entry → Type 0
Lighter xs ys = AllZip LighterEntry xs ys

-- A question about a limit has an answer of the test's own: the list is sound, and the asked deadline is from 1 to 1_000_000.
abbrev pub askable : List Entry → ℕ → Bool
askable xs d = sound xs && between 1 1000000 d

-- The rule before every test's own: the limit is 0 for an unsound list, and for an asked deadline out of range.
unfoldable pub guarded : List Entry → ℕ → Option ℕ → Option ℕ
guarded xs d limit = cond (askable xs d) limit (Some 0)

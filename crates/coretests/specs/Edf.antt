-- Earliest deadline first (EDF).
use Rattle.std.specs.Prelude.{◌≡◌, ℕ, ◌+◌, ◌-◌, ◌*◌, ◌/◌, ◌≤◌, true, List, [], ◌∷◌, None, sum_by, Option}
use Rattle.coretests.specs.declared.entry.Entry.{Entry}
use Rattle.coretests.specs.Limits.{least}
use Rattle.coretests.specs.Entries.{sound, guarded}

-- The demand of one entry at t: its load for each of its jobs that are due by t, load × floor((t + T − D) / T).
abbrev pub entry_demand : ℕ → Entry → ℕ
entry_demand t e = e.load * ((t + e.period - e.deadline) / e.period)

-- The demand of a list at t: the sum over its entries.
unfoldable pub demand : List Entry → ℕ → ℕ
demand xs t = sum_by (entry_demand t) xs

-- EDF accepts a list: it is sound, and its demand is at most t at every t from 1 on, without end.
abbrev pub EdfAccepts : List Entry → Type 0
EdfAccepts xs = (sound xs ≡ true) × ((t : ℕ) → 1 ≤ t → demand xs t ≤ t)

-- The slack at t: what the demand leaves of t, 0 where the demand exceeds t, since `-` stops at 0.
abbrev pub slack : List Entry → ℕ → ℕ
slack xs t = t - demand xs t

-- The least slack over all t from the first entry's deadline to d − 1: `None` where there is no entry or no such t.
abbrev pub least_slack : List Entry → ℕ → Option ℕ
least_slack [] d = None
least_slack (e ∷ es) d = least (slack (e ∷ es)) e.deadline (d - e.deadline)

-- The limit of EDF at the asked deadline d.
abbrev pub edf_limit : List Entry → ℕ → Option ℕ
edf_limit xs d = guarded xs d (least_slack xs d)

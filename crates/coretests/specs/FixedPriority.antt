-- Fixed priorities: an earlier entry has the higher priority.
use Rattle.std.specs.Prelude.{◌≡◌, ℕ, zero, suc, ◌+◌, ◌-◌, ◌*◌, ◌/◌, Bool, true, false, ◌&&◌, ◌||◌, List, [], ◌∷◌, ◌++◌, is_some, Some, None, sum_by, Option, nat_le}
use Rattle.std.specs.Option.{unwrap_or}
use Rattle.coretests.specs.declared.entry.Entry.{Entry}
use Rattle.coretests.specs.Limits.{lesser, greatest_below}
use Rattle.coretests.specs.Entries.{sound, guarded}

-- The work that an entry of higher priority may ask for before t: ceil(t / T) × load.
abbrev pub interference : ℕ → Entry → ℕ
interference t e = e.load * ((t + e.period - 1) / e.period)

-- The work before t of one job of the entry and of the entries before it.
unfoldable pub workload : List Entry → Entry → ℕ → ℕ
workload before e t = e.load + sum_by (interference t) before

-- Some number from 1 to n passes the test.
abbrev pub some_up_to : (ℕ → Bool) → ℕ → Bool
some_up_to test zero = false
some_up_to test (suc n) = test (suc n) || some_up_to test n

-- The entry tolerates b ticks of blocking: at some t from 1 to its deadline, b and the workload are at most t.
abbrev pub tolerates : List Entry → Entry → ℕ → Bool
tolerates before e b = some_up_to (λ t. nat_le (b + workload before e t) t) e.deadline

-- The tolerance of an entry: the greatest b that it tolerates. No b is greater than the t that it fits, so none is greater than the deadline.
unfoldable pub tolerance : List Entry → Entry → Option ℕ
tolerance before e = greatest_below (tolerates before e) (e.deadline + 1)

-- Every entry of the list has a tolerance behind those before it.
abbrev pub all_tolerate : List Entry → List Entry → Bool
all_tolerate before [] = true
all_tolerate before (e ∷ es) = is_some (tolerance before e) && all_tolerate (before ++ (e ∷ [])) es

-- One more than a tolerance, and 0 where there is none.
abbrev pub one_more : Option ℕ → ℕ
one_more None = 0
one_more (Some b) = b + 1

-- The least tolerance of the list, where an entry without one counts as 0; `None` of an empty list.
abbrev pub least_tolerance : List Entry → List Entry → Option ℕ
least_tolerance before [] = None
least_tolerance before (e ∷ es) = lesser (Some (unwrap_or (tolerance before e) 0)) (least_tolerance (before ++ (e ∷ [])) es)

-- Fixed priorities accept a list: it is sound, and every entry has a tolerance.
abbrev pub FixedAccepts : List Entry → Type 0
FixedAccepts xs = (sound xs ≡ true) × (all_tolerate [] xs ≡ true)

-- The limit under fixed priorities. It does not depend on the asked deadline d where that is in range.
abbrev pub fixed_limit : List Entry → ℕ → Option ℕ
fixed_limit xs d = guarded xs d (least_tolerance [] xs)

-- What drafts and sealed tables hold, and what the calls on a draft do.
use Rattle.std.specs.Prelude.{◌≡◌, ℕ, not, [], ◌∷◌, length, Some, None, Ok, Err, Option, Result, nat_le, nat_lt}
use Rattle.bounded.specs.Lists.{list_of}
use Rattle.span.specs.Spans.{span_of}
use Rattle.tasks.specs.Refusals.{first_of}
use Rattle.tasks.specs.Tasks.{Task, Table, between, in_range, has_id, periods, inserted, with_task, empty_on}
use Rattle.tasks.specs.Stored.{table_of}
use Rattle.tasks.specs.declared.refusal.Refusal.{Refusal}
use Rattle.tasks.specs.declared.refusal.Refusal.TheVariants.{OutOfRange, IdTaken, TableFull, LongSpan}
use Rattle.tasks.specs.declared.table.Held.{Held}
use Rattle.tasks.specs.declared.table.Draft.{Draft}
use Rattle.tasks.specs.declared.table.Sealed.{Sealed}

abbrev pub held : Held → Table
held t = table_of t.cores (list_of t.tasks)

abbrev pub drafted : Draft → Table
drafted d = held d.table

abbrev pub sealed : Sealed → Table
sealed s = held s.table

-- why a task is refused beside those of the table, if it is; `at` is the place that the refusal names
abbrev pub add_refusal : ℕ → Table → Task → Option Refusal
add_refusal at table x =
    first_of (
    (not (in_range x), OutOfRange at)
    ∷ (has_id x.id table.tasks, IdTaken at)
    ∷ (nat_le 24 (length table.tasks), TableFull at)
    ∷ (nat_lt 1000000 (span_of (periods (inserted x table.tasks))), LongSpan at) ∷ [])

-- the task goes in where nothing refuses it; else the first reason is answered, and the draft is as it was
abbrev pub Adds : ℕ → Draft → Task → Result (Unit {0}) Refusal → Draft → Type 0
Adds at d x (Ok u) e = (add_refusal at (drafted d) x ≡ None) × (drafted e ≡ with_task (drafted d) x)
Adds at d x (Err y) e = (add_refusal at (drafted d) x ≡ Some y) × (e ≡ d)

-- why a draft cannot be begun on so many cores, if it cannot
abbrev pub new_draft_refusal : ℕ → ℕ → Option Refusal
new_draft_refusal at cores = first_of ((not (between 1 8 cores), OutOfRange at) ∷ [])

-- the draft is empty and has the cores; or it is as it was
abbrev pub NewDraft : ℕ → Draft → ℕ → Result (Unit {0}) Refusal → Draft → Type 0
NewDraft at d cores (Ok u) e = (new_draft_refusal at cores ≡ None) × (drafted e ≡ empty_on cores)
NewDraft at d cores (Err y) e = (new_draft_refusal at cores ≡ Some y) × (e ≡ d)

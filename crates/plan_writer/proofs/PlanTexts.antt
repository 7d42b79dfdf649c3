-- Facts of the text of a plan. Assumes nothing.
use Rattle.std.proofs.Common.{◌≡◌, ℕ, ◌≤◌, ◌⊎◌, Bool, List, [], ◌∷◌, length, take, refl, ap, inl, inr, arith}
use Rattle.tasks.specs.declared.table.Sealed.{Sealed}
use Rattle.tasks.specs.declared.task.Task.{Task as Stored}
use Rattle.tasks.specs.Stored.{tasks_of}
use Rattle.tasks.specs.Tables.{sealed}
use Rattle.tasks.proofs.Rules.{rules_are}
use Rattle.cuts.specs.Allowed.{flags_at}
use Rattle.plans.specs.declared.types.Row.{Row}
use Rattle.plan_writer.specs.Lines.{row_lines}

-- where there are flags enough, those at the points stand in front
pub flags_front : (ps : List ℕ) (fs : List Bool) → length ps ≤ length fs → flags_at ps fs ≡ take (length ps) fs
flags_front [] fs h = refl
flags_front (p ∷ ps) [] h = absurd (omega arith)
flags_front (p ∷ ps) (f ∷ fs) h = ap (λ l. f ∷ l) (flags_front ps fs (omega arith))

-- a sealed table has few tasks
pub few_tasks : (table : Sealed) → length (sealed table).tasks ≤ 24
few_tasks table = (rules_are (sealed table) table.table.rules).few

-- nothing is told where there is no task or no row
pub no_lines : (ts : List Stored) (rows : List Row) → (ts ≡ []) ⊎ (rows ≡ []) → row_lines (tasks_of ts) rows ≡ []
no_lines [] [] e = refl
no_lines [] (r ∷ rows) e = refl
no_lines (t ∷ ts) [] e = refl
no_lines (t ∷ ts) (r ∷ rows) (inl e) = absurd (cc)
no_lines (t ∷ ts) (r ∷ rows) (inr e) = absurd (cc)

-- What rows are refused for, one row after another. Assumes nothing.
use Rattle.std.proofs.Common.{◌≡◌, ℕ, ◌⊎◌, ⊎_elim, cond, List, [], ◌∷◌, length, Some, None, refl, ap}
use Rattle.std.proofs.lemmas.Bool.{eq-eqb}
use Rattle.tasks.specs.declared.refusal.Refusal.TheVariants.{WrongRow}
use Rattle.tasks.specs.Tasks.{Task, Table}
use Rattle.plans.specs.declared.types.Row.{Row}
use Rattle.clearing.specs.Refused.{row_refusal}
use Rattle.clearing.specs.Examined.{rows_refusal}

-- nothing is left to refuse where there is no task or no row
pub no_refusal : (cores at : ℕ) (ts : List Task) (rs : List Row) → (ts ≡ []) ⊎ (rs ≡ []) → row_refusal cores at ts rs ≡ None
no_refusal cores at [] rs e = refl
no_refusal cores at (t ∷ ts) [] e = refl
no_refusal cores at (t ∷ ts) (r ∷ rs) e = ⊎_elim (λ q. cc) (λ q. cc) e

module _ (table : Table) (rows : List Row) where
  pub rows_counted : length rows ≡ length table.tasks → rows_refusal table rows ≡ row_refusal table.cores 1 table.tasks rows
  rows_counted e = ap (λ b. cond b (row_refusal table.cores 1 table.tasks rows) (Some (WrongRow 0))) (eq-eqb (length rows) (length table.tasks) e)

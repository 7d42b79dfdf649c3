-- What is lawful under a test is lawful under any that is laxer. Assumes nothing.
use Rattle.std.proofs.Common.{ℕ, List, [], ◌∷◌, ◌++◌, Option}
use Rattle.tasks.specs.Tasks.{Task, Table}
use Rattle.coretests.specs.declared.entry.Entry.{Entry}
use Rattle.coretests.specs.Limits.{AtMost}
use Rattle.plans.specs.declared.types.Row.{Row}
use Rattle.plans.specs.declared.types.Placed.{Placed}
use Rattle.plans.specs.Plans.{place, places, on_core, Fits, Lawful}
use Rattle.optimality.proofs.Greedy.{allowed_under}

module _ (limit laxer : List Entry → ℕ → Option ℕ) (longer : (xs : List Entry) (d : ℕ) → AtMost (limit xs d) (laxer xs d)) (table : Table) where
  pub fits_under : (before : List Placed) (ts : List Task) (rs : List Row) → Fits limit table before ts rs → Fits laxer table before ts rs
  fits_under before [] [] f = tt
  fits_under before [] (r ∷ rs) f = absurd f
  fits_under before (t ∷ ts) [] f = absurd f
  fits_under before (t ∷ ts) (r ∷ rs) f =
      let list = on_core r.core before in (
        record { low = f.0.low; high = f.0.high; allowed = allowed_under (limit list t.deadline) (laxer list t.deadline) t r.cuts (longer list t.deadline) f.0.allowed },
        fits_under (before ++ place table t r ∷ []) ts rs f.1,
      )

pub lawful_under : (accepts welcomes : List Entry → Type 0) (limit laxer : List Entry → ℕ → Option ℕ)
    → ((xs : List Entry) → accepts xs → welcomes xs) → ((xs : List Entry) (d : ℕ) → AtMost (limit xs d) (laxer xs d))
    → (table : Table) (rows : List Row) → Lawful accepts limit table rows → Lawful welcomes laxer table rows
lawful_under accepts welcomes limit laxer more longer table rows law = record {
  fits = fits_under limit laxer longer table [] table.tasks rows law.fits;
  held = λ c some. more (on_core c (places table table.tasks rows)) (law.held c some);
}

-- A loop over tasks and rows that assigns them one by one. Assumes nothing.
use Rattle.std.proofs.Common.{◌≡◌, ℕ, ◌+◌, ◌⊎◌, List, [], ◌∷◌, ◌++◌, length, Option, sym, refl, subst, inl, inr, append_assoc, arith}
use Rattle.std.proofs.lemmas.List.{append-nil, length_push}
use Rattle.tasks.specs.Tasks.{Task, Table}
use Rattle.coretests.specs.declared.entry.Entry.{Entry}
use Rattle.plans.specs.declared.types.Row.{Row}
use Rattle.plans.specs.declared.types.Placed.{Placed}
use Rattle.plans.specs.Plans.{place, Fits}
use Rattle.machine.specs.declared.types.Assigned.{Assigned}
use Rattle.machine.specs.Assigning.{IsAssigned, AssignedAll}

-- what is assigned so far goes on with what the tasks and rows that are left assign; there are as many tasks left as rows
pub record Assigns (all : List Task) (rows : List Row) (done : List Assigned) (ts : List Task) (rs : List Row) : Type 0 where
  pub rest : (others : List Assigned) → AssignedAll ts rs others → AssignedAll all rows (done ++ others)
  pub level : length ts ≡ length rs
  pub room : length done + length ts ≡ length all

-- a plan that fits has a row for each task
pub fits_level : (limit : List Entry → ℕ → Option ℕ) (table : Table) (before : List Placed) (ts : List Task) (rs : List Row) → Fits limit table before ts rs → length ts ≡ length rs
fits_level limit table before [] [] f = refl
fits_level limit table before [] (r ∷ rs) f = absurd f
fits_level limit table before (t ∷ ts) [] f = absurd f
fits_level limit table before (t ∷ ts) (r ∷ rs) f = let more = fits_level limit table (before ++ place table t r ∷ []) ts rs f.1 in omega arith

module _ (all : List Task) (rows : List Row) where
  pub assigns_start : length all ≡ length rows → Assigns all rows [] all rows
  assigns_start h = record { rest = λ others a. a; level = h; room = omega arith }

  pub assigns_more : (done : List Assigned) (t : Task) (ts : List Task) (r : Row) (rs : List Row) (a : Assigned) → IsAssigned t r a → Assigns all rows done (t ∷ ts) (r ∷ rs) → Assigns all rows (done ++ a ∷ []) ts rs
  assigns_more done t ts r rs a is s = record {
    rest = λ others h. subst (AssignedAll all rows) (sym (append_assoc done (a ∷ []) others)) (s.rest (a ∷ others) (is, h));
    level = omega (arith, s.level);
    room = omega (arith, s.room, length_push done a);
  }

  pub assigns_end : (done : List Assigned) (ts : List Task) (rs : List Row) → Assigns all rows done ts rs → (ts ≡ []) ⊎ (rs ≡ []) → AssignedAll all rows done
  assigns_end done [] [] s e = subst (AssignedAll all rows) (append-nil done) (s.rest [] tt)
  assigns_end done [] (r ∷ rs) s e = absurd (omega (arith, s.level))
  assigns_end done (t ∷ ts) [] s e = absurd (omega (arith, s.level))
  assigns_end done (t ∷ ts) (r ∷ rs) s (inl e) = absurd cc
  assigns_end done (t ∷ ts) (r ∷ rs) s (inr e) = absurd cc

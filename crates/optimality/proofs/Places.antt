-- Rows fit task after task exactly when they fit place by place. Assumes nothing.
use Rattle.std.proofs.Common.{◌≡◌, ℕ, zero, suc, ◌<◌, List, [], ◌∷◌, ◌++◌, length, get_or, take, Option, sym, subst, append_assoc, arith}
use Rattle.std.proofs.lemmas.List.{append-nil}
use Rattle.tasks.specs.Tasks.{Task, Table}
use Rattle.coretests.specs.declared.entry.Entry.{Entry}
use Rattle.plans.specs.declared.types.Row.{Row}
use Rattle.plans.specs.declared.types.Placed.{Placed}
use Rattle.plans.specs.Plans.{place, places, Suits, Fits}
use Rattle.optimality.specs.Meanings.{FittingIsByPlace}
use Rattle.optimality.proofs.Greedy.{fits_length}

module _ (limit : List Entry → ℕ → Option ℕ) (table : Table) where
  -- at place i, behind those before and the places below i
  abbrev SuitsAt : List Placed → List Task → List Row → ℕ → Task → Row → Type 0
  SuitsAt before ts rs i t r = Suits limit table (before ++ take i (places table ts rs)) (get_or ts i t) (get_or rs i r)

  suits_behind : (t : Task) (r : Row) (before before' : List Placed) → before ≡ before' → Suits limit table before t r → Suits limit table before' t r
  suits_behind t r before before' e h = subst (λ (ps : List Placed). Suits limit table ps t r) e h

  fits_at : (before : List Placed) (ts : List Task) (rs : List Row) → Fits limit table before ts rs → (i : ℕ) (t : Task) (r : Row) → i < length ts → SuitsAt before ts rs i t r
  fits_at before [] rs f i t r h = absurd (omega arith)
  fits_at before (x ∷ ts) [] f i t r h = absurd f
  fits_at before (x ∷ ts) (q ∷ rs) f zero t r h = suits_behind x q before (before ++ []) (sym (append-nil before)) f.0
  fits_at before (x ∷ ts) (q ∷ rs) f (suc i) t r h =
      suits_behind (get_or ts i t) (get_or rs i r) ((before ++ place table x q ∷ []) ++ take i (places table ts rs)) (before ++ (place table x q ∷ take i (places table ts rs)))
      (append_assoc before (place table x q ∷ []) (take i (places table ts rs))) (fits_at (before ++ place table x q ∷ []) ts rs f.1 i t r (omega arith))

  fits_from : (before : List Placed) (ts : List Task) (rs : List Row) → length rs ≡ length ts → ((i : ℕ) (t : Task) (r : Row) → i < length ts → SuitsAt before ts rs i t r) → Fits limit table before ts rs
  fits_from before [] [] l s = tt
  fits_from before [] (q ∷ rs) l s = omega arith
  fits_from before (x ∷ ts) [] l s = omega arith
  fits_from before (x ∷ ts) (q ∷ rs) l s = (
    suits_behind x q (before ++ []) before (append-nil before) (s 0 x q (omega arith)),
    fits_from (before ++ place table x q ∷ []) ts rs (omega arith) (λ i t r h.
        suits_behind (get_or ts i t) (get_or rs i r) (before ++ (place table x q ∷ take i (places table ts rs))) ((before ++ place table x q ∷ []) ++ take i (places table ts rs))
        (sym (append_assoc before (place table x q ∷ []) (take i (places table ts rs)))) (s (suc i) t r (omega arith))),
  )

pub fitting_is_by_place_lem : FittingIsByPlace
fitting_is_by_place_lem limit table rs = (
  λ f. record { count = fits_length limit table [] table.tasks rs f; suits = fits_at limit table [] table.tasks rs f },
  λ b. fits_from limit table [] table.tasks rs b.count b.suits,
)

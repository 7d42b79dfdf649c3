-- No two plans are both the choice, unless they agree in cost, cores and cuts. Assumes nothing.
use Rattle.std.proofs.Common.{◌≡◌, ℕ, List, [], ◌∷◌, ◌++◌, length, Option, sym, refl, ◌∙◌, arith}
use Rattle.coretests.specs.declared.entry.Entry.{Entry}
use Rattle.plans.specs.Plans.{cores, marks, cost, rank}
use Rattle.optimality.specs.Meanings.{OneChoice}
use Rattle.optimality.proofs.Order.{no_later_antisym}
use Rattle.optimality.proofs.Greedy.{fits_length}
use Rattle.optimality.proofs.Steps.{cores-length}

pub fronts_same : (xs ys fs gs : List ℕ) → length xs ≡ length ys → xs ++ fs ≡ ys ++ gs → (xs ≡ ys) × (fs ≡ gs)
fronts_same [] [] fs gs l e = (refl, e)
fronts_same [] (y ∷ ys) fs gs l e = absurd (omega arith)
fronts_same (x ∷ xs) [] fs gs l e = absurd (omega arith)
fronts_same (x ∷ xs) (y ∷ ys) fs gs l e =
    let h : x ≡ y = cc in
    let t : xs ++ fs ≡ ys ++ gs = cc in
    let r = fronts_same xs ys fs gs (omega arith) t in
    ((λ i. h i ∷ r.0 i), r.1)

pub one_choice_lem : (accepts : List Entry → Type 0) (limit : List Entry → ℕ → Option ℕ) → OneChoice accepts limit
one_choice_lem accepts limit table rs qs p q =
    let ts = table.tasks in
    let e : rank table rs ≡ rank table qs = no_later_antisym (rank table rs) (rank table qs) (p.least qs q.lawful) (q.least rs p.lawful) in
    let price : cost table rs ≡ cost table qs = cc in
    let rest : cores rs ++ marks ts rs ≡ cores qs ++ marks ts qs = cc in
    let long = cores-length rs ∙ fits_length limit table [] ts rs p.lawful.fits in
    let long' = cores-length qs ∙ fits_length limit table [] ts qs q.lawful.fits in
    let same = fronts_same (cores rs) (cores qs) (marks ts rs) (marks ts qs) (long ∙ sym long') rest in
    (price, same.0, same.1)

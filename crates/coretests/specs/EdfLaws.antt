-- Earliest deadline first keeps the rules of every test. Assumes nothing.
use Rattle.std.proofs.Common.{sym, subst, arith}
use Rattle.std.specs.Prelude.{ℕ, ◌-◌, List, [], ◌∷◌, ◌++◌}
use Rattle.coretests.specs.declared.entry.Entry.{Entry}
use Rattle.coretests.specs.Limits.{AtMost, least}
use Rattle.coretests.specs.Entries.{Lighter}
use Rattle.coretests.specs.Edf.{demand, EdfAccepts, least_slack}
use Rattle.coretests.specs.Bounds.{least_mono}
use Rattle.coretests.specs.Demand.{demand_lighter, demand_front}
use Rattle.coretests.specs.Soundness.{sound_lighter, sound_front}

pub accepts_lighter : (xs ys : List Entry) → Lighter xs ys → EdfAccepts xs → EdfAccepts ys
accepts_lighter xs ys e m = (sound_lighter xs ys e m.0, λ t h. omega (arith, m.1 t h, demand_lighter xs ys e t))

pub accepts_front : (xs : List Entry) (x : Entry) → EdfAccepts (xs ++ (x ∷ [])) → EdfAccepts xs
accepts_front xs x m = (sound_front xs (x ∷ []) m.0, λ t h. omega (arith, m.1 t h, demand_front xs (x ∷ []) t))

pub least_slack_lighter : (xs ys : List Entry) (d : ℕ) → Lighter xs ys → AtMost (least_slack xs d) (least_slack ys d)
least_slack_lighter [] [] d e = tt
least_slack_lighter [] (y ∷ ys) d e = absurd e
least_slack_lighter (x ∷ xs) [] d e = absurd e
least_slack_lighter (x ∷ xs) (y ∷ ys) d e =
    let f : ℕ → ℕ = λ t. t - demand (x ∷ xs) t in
    let g : ℕ → ℕ = λ t. t - demand (y ∷ ys) t in
    subst (λ (n : ℕ). AtMost (least f x.deadline (d - x.deadline)) (least g n (d - n))) (sym e.0.deadline)
    (least_mono f g x.deadline (d - x.deadline) (λ t. omega (arith, demand_lighter (x ∷ xs) (y ∷ ys) e t)))

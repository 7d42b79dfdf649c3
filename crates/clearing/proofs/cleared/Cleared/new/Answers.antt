use Rattle.std.proofs.Common.{[], sym, ◌∙◌, subst}
use Rattle.tasks.specs.Tables.{sealed}
use Rattle.coretests.specs.Edf.{EdfAccepts, edf_limit}
use Rattle.plans.specs.Plans.{Lawful}
use Rattle.clearing.proofs.Refusing.{empty_lawful}
use Rattle.clearing.proofs.cleared.Cleared.new.Goals as goal

pub invariant_of-result : goal.invariant_of-result
invariant_of-result c =
    let table = c.seal.ensures ∙ c.new-empty.ensures in
    let lawful = subst (λ t. Lawful EdfAccepts edf_limit t []) (sym table) (empty_lawful EdfAccepts edf_limit 1) in
    record { lawful = ∣ subst (λ l. Lawful EdfAccepts edf_limit (sealed c.seal.result) l) (sym c.default.ensures) lawful ∣₁ }

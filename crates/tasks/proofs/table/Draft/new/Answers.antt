use Rattle.std.proofs.Common.{refl, ap, ◌∙◌}
use Rattle.tasks.specs.Tasks.{table_rules}
use Rattle.tasks.specs.Stored.{table_of}
use Rattle.tasks.proofs.Rules.{rules_empty}
use Rattle.tasks.proofs.table.Draft.new.Goals as goal

pub invariant_of-result : goal.invariant_of-result
invariant_of-result c = record { rules = ap (λ l. table_rules (table_of 1 l)) c.no_tasks.ensures ∙ rules_empty 1 refl }

pub returns : goal.returns
returns c = ap (table_of 1) c.no_tasks.ensures

use Rattle.std.proofs.Common.{◌≡◌, true, ap, ◌∙◌, rules}
use Rattle.tasks.specs.Tasks.{between, table_rules}
use Rattle.tasks.specs.Stored.{table_of}
use Rattle.tasks.specs.Tables.{drafted}
use Rattle.tasks.proofs.Rules.{rules_are, rules_empty}
use Rattle.tasks.proofs.table.Draft.new_draft_at.Goals as goal

pub invariant_of-self : goal.invariant_of-self
invariant_of-self c =
    let d = c.args.self.now in
    record { rules = ap (λ l. table_rules (table_of d.table.cores l)) c.clear.ensures ∙ rules_empty d.table.cores (rules_are (drafted d) d.table.rules).cores }

pub invariant_of-self-2 : goal.invariant_of-self-2
invariant_of-self-2 c =
    let within : between 1 8 c.args.cores ≡ true = search rules in
    record { rules = ap (λ l. table_rules (table_of c.args.cores l)) c.clear.ensures ∙ rules_empty c.args.cores within }

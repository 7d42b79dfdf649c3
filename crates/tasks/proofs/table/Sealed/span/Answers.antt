use Rattle.std.proofs.Common.{Some, None, ap, ◌∙◌, subst, arith}
use Rattle.span.specs.Spans.{SpanWithin}
use Rattle.span.proofs.Answered.{none_above}
use Rattle.tasks.specs.Tasks.{periods}
use Rattle.tasks.specs.Tables.{sealed}
use Rattle.tasks.proofs.Rules.{rules_are, table_positive, stored_periods}
use Rattle.tasks.proofs.table.Sealed.span.Goals as goal

pub returns : goal.returns
returns c =
    let is = stored_periods c.tasks.result.now ∙ ap periods c.tasks.ensures in
    let told = subst (λ ps. SpanWithin ps (Some c.in-Some.span)) is c.in-Some.ensures in
    record { value = told.is; least = told.least }

pub unreachable-requires : goal.unreachable-requires
unreachable-requires c =
    let table = sealed c.args.self.now in
    let is = stored_periods c.tasks.result.now ∙ ap periods c.tasks.ensures in
    let told = subst (λ ps. SpanWithin ps None) is c.in-None.ensures in
    omega (arith, none_above (periods table.tasks) (table_positive table c.args.self.now.table.rules) told, (rules_are table c.args.self.now.table.rules).short)

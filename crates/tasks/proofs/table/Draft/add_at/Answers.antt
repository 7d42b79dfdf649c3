use Rattle.std.proofs.Common.{◌≡◌, ℕ, ◌<◌, ◌≤◌, true, false, cond, eqb, leb, ltb, List, map, length, Some, None, Option, sym, refl, ap, ◌∙◌, subst, arith, rules, lt-ltb, le-leb}
use Rattle.bounded.specs.Lists.{list_of}
use Rattle.std.proofs.lemmas.Bool.Decides.{nat_tests}
use Rattle.std.specs.List.{list_any}
use Rattle.std.proofs.lemmas.List.Sums.{prefix_len-le-length}
use Rattle.bounded.proofs.Pushed.{inserted_there}
use Rattle.span.specs.Spans.{span_of, SpanWithin, Positive}
use Rattle.span.proofs.Answered.{none_above}
use Rattle.tasks.specs.declared.task.Task.{Task as Stored}
use Rattle.tasks.specs.Tasks.{in_range, every, has_id, periods, inserted, table_rules}
use Rattle.tasks.specs.Stored.{tasks_of, proposed}
use Rattle.tasks.specs.Tables.{drafted, add_refusal}
use Rattle.tasks.specs.declared.refusal.Refusal.TheVariants.{LongSpan}
use Rattle.tasks.proofs.Order.{has_stored, not_later, put_in, length_stored, every_inserted}
use Rattle.tasks.proofs.Rules.{rules_are, positive, rules_added, stored_periods}
use Rattle.tasks.proofs.table.Draft.add_at.Goals as goal
use Rattle.tasks.proofs.table.Draft.add_at.Goals.{In-Ok, After-has_id, After-insert}

module _ (c : In-Ok) where
  fits_in : in_range (proposed c.args.task.now) ≡ true
  fits_in = ap in_range (sym c.in-Ok.ensures.0) ∙ c.in-Ok.ensures.1

module _ (c : After-has_id) where
  stored_long : length (tasks_of (list_of c.args.self.now.table.tasks)) ≡ length c.as_slice-tasks.result.now
  stored_long = length_stored (list_of c.args.self.now.table.tasks) ∙ sym (ap length c.as_slice-tasks.ensures.value)

  told_id : has_id c.args.task.now.id (tasks_of (list_of c.args.self.now.table.tasks)) ≡ c.has_id.result
  told_id = sym (has_stored c.args.task.now.id (list_of c.args.self.now.table.tasks)) ∙ ap (list_any (λ (t : Stored). eqb t.id c.args.task.now.id)) (sym c.as_slice-tasks.ensures.value) ∙ sym c.has_id.ensures

pub returns-then-has_id : goal.returns-then-has_id
returns-then-has_id c =
    let at = goal.at.returns-then-has_id c in
    let ranges = fits_in at.In-Ok in
    let taken = told_id at.After-has_id ∙ c.if-has_id.true in
    search (rules, ranges, taken)

pub returns-then-tasks-ge-MAX_TASKS : goal.returns-then-tasks-ge-MAX_TASKS
returns-then-tasks-ge-MAX_TASKS c =
    let at = goal.at.returns-then-tasks-ge-MAX_TASKS c in
    let ranges = fits_in at.In-Ok in
    let new = told_id at.After-has_id ∙ c.if-has_id.false in
    let full : leb 24 (length (tasks_of (list_of c.args.self.now.table.tasks))) ≡ true = le-leb 24 _ (omega (arith, stored_long at.After-has_id)) in
    search (rules, ranges, new, full)

pub insert-requires : goal.insert-requires
insert-requires c =
    let front = λ (t : Stored). leb t.deadline c.args.task.now.deadline in
    (omega arith, omega (arith, c.place_for.ensures, prefix_len-le-length front c.as_slice-tasks.result.now, ap length c.as_slice-tasks.ensures.value))

module _ (c : After-insert) where
  room : length (tasks_of (list_of c.args.self.now.table.tasks)) < 24
  room = omega (arith, stored_long (goal.at.After-insert c).After-has_id)

  put : tasks_of (list_of c.insert.new.self) ≡ inserted (proposed c.args.task.now) (tasks_of (list_of c.args.self.now.table.tasks))
  put =
      let ts = list_of c.args.self.now.table.tasks in
      ap tasks_of (inserted_there ts (list_of c.insert.new.self) c.place_for.result c.in-Ok.new 24 c.insert.result c.insert.ensures.ok c.insert.ensures.variant (omega (arith, room, length_stored ts)))
      ∙ put_in c.in-Ok.new (proposed c.args.task.now) ts c.place_for.result c.in-Ok.ensures.0 (c.place_for.ensures ∙ ap (not_later c.args.task.now.deadline) c.as_slice-tasks.ensures.value)

  fits : in_range (proposed c.args.task.now) ≡ true
  fits = fits_in (goal.at.After-insert c).In-Ok

  fresh : has_id c.args.task.now.id (tasks_of (list_of c.args.self.now.table.tasks)) ≡ false
  fresh = told_id (goal.at.After-insert c).After-has_id ∙ c.if-has_id.false

  all_positive : Positive (periods (tasks_of (list_of c.insert.new.self)))
  all_positive =
      positive (tasks_of (list_of c.insert.new.self))
      (ap (every in_range) put ∙ every_inserted in_range (proposed c.args.task.now) (tasks_of (list_of c.args.self.now.table.tasks)) fits (rules_are (drafted c.args.self.now) c.args.self.now.table.rules).ranges)

  -- only the span is left to refuse the task
  left_over : add_refusal c.args.at (drafted c.args.self.now) (proposed c.args.task.now) ≡ cond (ltb 1000000 (span_of (periods (tasks_of (list_of c.insert.new.self))))) (Some (LongSpan c.args.at)) None
  left_over =
      let few : leb 24 (length (tasks_of (list_of c.args.self.now.table.tasks))) ≡ false = grind (arith, nat_tests, room) in
      let told : add_refusal c.args.at (drafted c.args.self.now) (proposed c.args.task.now) ≡ cond (ltb 1000000 (span_of (periods (inserted (proposed c.args.task.now) (tasks_of (list_of c.args.self.now.table.tasks)))))) (Some (LongSpan c.args.at)) None = search (rules, fits, fresh, few) in
      told ∙ ap (λ l. cond (ltb 1000000 (span_of (periods l))) (Some (LongSpan c.args.at)) None) (sym put)

-- what the span's test told of the new table
told_of : (c : After-insert) (r : Option ℕ) (ts : List Stored) → ts ≡ list_of c.insert.new.self → SpanWithin (map (λ (t : Stored). t.period) ts) r → SpanWithin (periods (tasks_of (list_of c.insert.new.self))) r
told_of c r ts is h = subst (λ ps. SpanWithin ps r) (stored_periods ts ∙ ap (λ l. periods (tasks_of l)) is) h

pub returns-in_default-span_of : goal.returns-in_default-span_of
returns-in_default-span_of c =
    let at = (goal.at.returns-in_default-span_of c).After-insert in
    let long = none_above (periods (tasks_of (list_of c.insert.new.self))) (all_positive at) (told_of at None c.as_slice.result.now c.as_slice.ensures.value c.in_default-span_of.ensures) in
    (left_over at ∙ ap (λ b. cond b (Some (LongSpan c.args.at)) None) (lt-ltb 1000000 _ long), refl)

pub invariant_of-self : goal.invariant_of-self
invariant_of-self c =
    let at = (goal.at.invariant_of-self c).After-insert in
    let d = c.args.self.now in
    let told = told_of at (Some c.in-Some.field-0) c.as_slice.result.now c.as_slice.ensures.value c.in-Some.ensures in
    let short : span_of (periods (inserted (proposed c.args.task.now) (tasks_of (list_of d.table.tasks)))) ≤ 1000000 = omega (arith, told.is, told.within, ap (λ l. span_of (periods l)) (put at)) in
    record { rules = ap (λ l. table_rules (record { cores = d.table.cores; tasks = l })) (put at) ∙ rules_added (drafted d) (proposed c.args.task.now) d.table.rules (fits at) (fresh at) (room at) short }

pub returns : goal.returns
returns c =
    let at = (goal.at.returns c).After-insert in
    let told = told_of at (Some c.in-Some.field-0) c.as_slice.result.now c.as_slice.ensures.value c.in-Some.ensures in
    let short : span_of (periods (tasks_of (list_of c.insert.new.self))) ≤ 1000000 = omega (arith, told.is, told.within) in
    let within : ltb 1000000 (span_of (periods (tasks_of (list_of c.insert.new.self)))) ≡ false = grind (arith, nat_tests, short) in
    (left_over at ∙ ap (λ b. cond b (Some (LongSpan c.args.at)) None) within, ap (λ l. record { cores = c.args.self.now.table.cores; tasks = l }) (put at))

use Rattle.std.proofs.Common.{◌≡◌, length, sym, ap, ◌∙◌, subst}
use Rattle.bounded.specs.Lists.{list_of}
use Rattle.clearing.specs.Clearing.{table_in, rows_in}
use Rattle.machine.specs.Assigning.{AssignedAll}
use Rattle.machine.specs.Machine.{start}
use Rattle.cabinet.specs.States.{state_of}
use Rattle.cabinet.proofs.Plans.{plan_level, load_reaches, load-starts}
use Rattle.cabinet.proofs.cabinet.Cabinet.load.Goals as goal
use Rattle.cabinet.proofs.cabinet.Cabinet.load.Goals.{After-started}

pub assign_all-tasks-requires : goal.assign_all-tasks-requires
assign_all-tasks-requires c = ap (λ t. length t.tasks) c.table.ensures ∙ plan_level c.args.plan ∙ sym (ap length c.rows.ensures)

module _ (c : After-started) where
  assigned : AssignedAll (table_in c.args.plan).tasks (rows_in c.args.plan) (list_of c.assign_all-tasks.result)
  assigned =
      let tasks = list_of c.assign_all-tasks.result in
      subst (λ l. AssignedAll (table_in c.args.plan).tasks l tasks) c.rows.ensures (subst (λ t. AssignedAll t.tasks c.rows.result.now tasks) c.table.ensures c.assign_all-tasks.ensures)

  starts : state_of c.started.result ≡ start (table_in c.args.plan).cores c.args.start (list_of c.assign_all-tasks.result)
  starts =
      let cores = c.cores.ensures ∙ ap (λ t. t.cores) c.table-2.ensures in
      c.started.ensures ∙ (λ i. start (cores i) c.args.start (list_of c.assign_all-tasks.result))

pub invariant_of-result : goal.invariant_of-result
invariant_of-result c =
    let at = (goal.at.invariant_of-result c).After-started in
    record { reached = load_reaches c.args.plan c.args.start (list_of c.assign_all-tasks.result) (assigned at) (state_of c.started.result) (starts at) }

pub returns : goal.returns
returns c =
    let at = (goal.at.returns c).After-started in
    load-starts c.args.plan c.args.start (list_of c.assign_all-tasks.result) (assigned at) (state_of c.started.result) (starts at)

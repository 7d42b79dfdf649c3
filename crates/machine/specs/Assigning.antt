-- What a plan assigns, and that a lawful plan assigns tasks which are schedulable.
use Rattle.std.specs.Prelude.{◌≡◌, true, List, [], ◌∷◌}
use Rattle.bounded.specs.Lists.{list_of}
use Rattle.tasks.specs.Tasks.{Task, Table, table_rules}
use Rattle.tasks.specs.Cuts.{regions}
use Rattle.coretests.specs.Edf.{EdfAccepts, edf_limit}
use Rattle.plans.specs.declared.types.Row.{Row}
use Rattle.plans.specs.Plans.{Lawful}
use Rattle.machine.specs.declared.types.Assigned.{Assigned}
use Rattle.machine.specs.Schedulable.{Schedulable}

-- a task as its row assigns it: on the row's core, with the regions that the row's cuts make
pub record IsAssigned (t : Task) (r : Row) (a : Assigned) : Type 0 where
  pub core : a.core ≡ r.core
  pub period : a.period ≡ t.period
  pub deadline : a.deadline ≡ t.deadline
  pub lengths : list_of a.regions ≡ regions t r.cuts

-- each task as its row assigns it, in table order; there are as many tasks as rows
abbrev pub AssignedAll : List Task → List Row → List Assigned → Type 0
AssignedAll [] [] [] = Unit {0}
AssignedAll [] [] (a ∷ rest) = ⊥
AssignedAll [] (r ∷ rs) rest = ⊥
AssignedAll (t ∷ ts) [] rest = ⊥
AssignedAll (t ∷ ts) (r ∷ rs) [] = ⊥
AssignedAll (t ∷ ts) (r ∷ rs) (a ∷ rest) = IsAssigned t r a × AssignedAll ts rs rest

-- what a plan assigns that is lawful under the EDF test is schedulable
abbrev pub LawfulIsSchedulable : Type 0
LawfulIsSchedulable =
    (table : Table) (rows : List Row) (tasks : List Assigned) → table_rules table ≡ true → Lawful EdfAccepts edf_limit table rows
    → AssignedAll table.tasks rows tasks → Schedulable table.cores tasks

-- What a stored task and a proposed one stand for.
use Rattle.std.specs.Prelude.{ℕ, List, map}
use Rattle.bounded.specs.Lists.{list_of}
use Rattle.tasks.specs.Tasks.{Task, Table}
use Rattle.tasks.specs.declared.task.Task.{Task as Stored}
use Rattle.tasks.specs.declared.proposal.Proposal.{Proposal}

abbrev pub task_of : Stored → Task
task_of t = record { id = t.id; period = t.period; deadline = t.deadline; blocks = list_of t.blocks; points = list_of t.points }

abbrev pub tasks_of : List Stored → List Task
tasks_of ts = map task_of ts

abbrev pub table_of : ℕ → List Stored → Table
table_of cores ts = record { cores = cores; tasks = tasks_of ts }

abbrev pub proposed : Proposal → Task
proposed p = record { id = p.id; period = p.period; deadline = p.deadline; blocks = p.blocks.now; points = p.points.now }

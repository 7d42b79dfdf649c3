use Rattle.plan_cases.proofs.Worked.{worked}
use Rattle.plan_cases.proofs.worked_cases.Goals as goal

pub returns : goal.returns
returns c = worked

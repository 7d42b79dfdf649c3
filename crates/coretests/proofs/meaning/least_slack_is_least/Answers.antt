use Rattle.coretests.proofs.Slacks.{least-slack_is_least}
use Rattle.coretests.proofs.meaning.least_slack_is_least.Goals as goal

pub returns : goal.returns
returns c = least-slack_is_least

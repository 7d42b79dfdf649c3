use Rattle.std.proofs.Common.{rules}
use Rattle.machine.proofs.Bridge.{place_found}
use Rattle.cabinet.proofs.records.place_on.Goals as goal

pub returns : goal.returns
returns c = place_found c.args.core c.args.slots.now c.running_on.result c.map_or.result c.running_on.ensures (search rules)

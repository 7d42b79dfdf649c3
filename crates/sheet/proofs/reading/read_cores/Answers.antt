use Rattle.std.proofs.Common.{subst}
use Rattle.fields.specs.Values.{CoresOf}
use Rattle.sheet.proofs.Stepping.{cores_steps}
use Rattle.sheet.proofs.reading.read_cores.Goals as goal

pub returns : goal.returns
returns c =
    cores_steps c.args.reader.now c.read_line.new.self c.in_ok-line.line c.in_ok-line.ensures c.args.draft.now c.new_draft_at.new.self c.in_ok-cores.cores c.new_draft_at.result (subst (CoresOf c.in_ok-line.line.bytes.now) c.in_ok-cores.ensures.ok_part c.cores_of.ensures) c.new_draft_at.ensures

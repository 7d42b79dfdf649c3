use Rattle.console.proofs.Fronts.{known_front}
use Rattle.console.proofs.read_front.Goals as goal

pub returns : goal.returns
returns g c =
    known_front g.R.Read.remaining c.take.result c.args.from _ c.new-sheet.result.items _ c.take.ensures.limit c.take.ensures.inner c.new-sheet.ensures.items
    c.in_ok-read_to_end.ensures.bytes

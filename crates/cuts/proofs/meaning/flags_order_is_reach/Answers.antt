use Rattle.cuts.proofs.Reach.{one_reach_each, flags_order_is_reach_lem, chosen_reach_furthest}
use Rattle.cuts.proofs.meaning.flags_order_is_reach.Goals as goal

pub returns : goal.returns
returns c = record { each = one_reach_each; order = flags_order_is_reach_lem; chosen = chosen_reach_furthest }

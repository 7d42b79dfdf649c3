use Rattle.std.proofs.Common.{length, sym, ap, ◌∙◌}
use Rattle.bounded.specs.Lists.{list_of}
use Rattle.machine.specs.declared.types.Call.TheVariants.{Tick}
use Rattle.machine.proofs.Runs.{row_long}
use Rattle.cabinet.specs.Calls.{ran_of}
use Rattle.cabinet.specs.Cabinets.{state}
use Rattle.cabinet.proofs.Reaching.{keeps}
use Rattle.cabinet.proofs.cabinet.Cabinet.tick.Goals as goal

pub invariant_of-self : goal.invariant_of-self
invariant_of-self c = record { reached = keeps c.args.self.now c.tick.new.self (Tick (length c.args.row.now)) (ran_of c.tick.result) c.tick.ensures }

pub copy_from_slice-requires : goal.copy_from_slice-requires
copy_from_slice-requires c =
    let long = row_long (state c.args.self.now) (length c.args.row.now) (list_of c.in_ok-ran.ran) (sym (ap (λ x. x.1) c.in_ok-ran.ensures)) in
    sym (ap length c.as_slice.ensures.value ∙ long)

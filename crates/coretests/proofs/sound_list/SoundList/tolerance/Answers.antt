use Rattle.std.proofs.Common.{◌+◌, Some, sym, ap, ◌∙◌, take, slice_index_or, arith}
use Rattle.coretests.specs.Soundness.{blank, in_range_at, front_in_range}
use Rattle.coretests.specs.FixedPriority.{one_more}
use Rattle.coretests.proofs.Found.{search_turn, search_over, found_small}
use Rattle.coretests.proofs.sound_list.SoundList.tolerance.Goals as goal

pub loop-t-preserved : goal.loop-t-preserved
loop-t-preserved c =
    let list = c.args.self.now in
    let xs = list.entries.now in
    search_turn (take c.args.k xs) (slice_index_or xs c.args.k blank) (front_in_range xs c.args.k list.sound) c.loop-t.found c.checked_sub.result c.max-found.result c.loop-t.t c.in-Some.work c.in-Some.work c.max-found.ensures c.checked_sub.ensures c.in-Some.ensures.0 c.loop-t-test.true (omega (arith, ap one_more c.in-None.is)) c.loop-t.invariant

pub loop-t-preserved-in-Some-found : goal.loop-t-preserved-in-Some-found
loop-t-preserved-in-Some-found c =
    let list = c.args.self.now in
    let xs = list.entries.now in
    search_turn (take c.args.k xs) (slice_index_or xs c.args.k blank) (front_in_range xs c.args.k list.sound) c.loop-t.found c.checked_sub.result (Some c.in-Some-found.b) c.loop-t.t c.in-Some.work (c.in-Some.work + c.in-Some-found.b + 1) (sym c.in-Some-found.is ∙ c.max-found.ensures) c.checked_sub.ensures c.in-Some.ensures.0 c.loop-t-test.true (omega arith) c.loop-t.invariant

pub overflow_add-t : goal.overflow_add-t
overflow_add-t c =
    let list = c.args.self.now in
    let xs = list.entries.now in
    let f = in_range_at xs c.args.k list.sound c.requires in
    omega (arith, found_small (take c.args.k xs) (slice_index_or xs c.args.k blank) f c.loop-t.found c.checked_sub.result (Some c.in-Some-found.b) c.loop-t.t c.in-Some.work (sym c.in-Some-found.is ∙ c.max-found.ensures) c.checked_sub.ensures c.loop-t-test.true c.loop-t.invariant)

pub overflow_add-t-in-Some-found : goal.overflow_add-t-in-Some-found
overflow_add-t-in-Some-found c =
    let list = c.args.self.now in
    let xs = list.entries.now in
    let f = in_range_at xs c.args.k list.sound c.requires in
    omega (arith, found_small (take c.args.k xs) (slice_index_or xs c.args.k blank) f c.loop-t.found c.checked_sub.result (Some c.in-Some-found.b) c.loop-t.t c.in-Some.work (sym c.in-Some-found.is ∙ c.max-found.ensures) c.checked_sub.ensures c.loop-t-test.true c.loop-t.invariant)

pub returns-in_default : goal.returns-in_default
returns-in_default c =
    let list = c.args.self.now in
    let xs = list.entries.now in
    search_over (take c.args.k xs) (slice_index_or xs c.args.k blank) (front_in_range xs c.args.k list.sound) c.loop-t.found c.loop-t.t c.in_default.ensures c.loop-t.invariant

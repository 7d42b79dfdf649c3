use Rattle.std.proofs.Common.{◌<◌, length, arith, false-eqb}
use Rattle.reader.specs.Tokens.{rest}
use Rattle.std.proofs.lemmas.Result.{err_from_is_err_and}
use Rattle.sheet.proofs.Granting.{reached_first, reached_more, reads_broken}
use Rattle.sheet.proofs.reading.read_sheet.Goals as goal

pub loop-reader-init : goal.loop-reader-init
loop-reader-init c =
    reached_first c.args.sheet.now c.new-reader.result c.read_cores.new.reader c.read_cores.new.draft c.new-reader.ensures.sheet c.new-reader.ensures.start c.in_ok-read_cores.ensures

pub loop-reader-preserved : goal.loop-reader-preserved
loop-reader-preserved c = reached_more c.args.sheet.now c.loop-reader.reader c.read_task.new.reader c.loop-reader.draft c.read_task.new.draft c.loop-reader.invariant c.in_ok-read_task.ensures

pub returns-in_err-read_task : goal.returns-in_err-read_task
returns-in_err-read_task c =
    let p = err_from_is_err_and c.from_residual-in_err-read_task.result c.from_residual-in_err-read_task.ensures.1 in
    let some : 0 < length (rest c.loop-reader.reader) = omega (arith, false-eqb (length (rest c.loop-reader.reader)) 0 c.loop-reader-test.ensures) in
    rw (p.1, p.2) (reads_broken c.args.sheet.now c.loop-reader.reader c.args.draft.now c.loop-reader.draft c.read_task.new.draft _ c.loop-reader.invariant some c.in_err-read_task.ensures)

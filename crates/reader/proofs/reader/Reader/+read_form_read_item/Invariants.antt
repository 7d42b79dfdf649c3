use Rattle.std.proofs.Common.{◌+◌, ◌-◌, ◌*◌, length}
use Rattle.reader.specs.Progress.{ReadItems}
use Rattle.reader.proofs.reader.Reader.+read_form_read_item.Given as goal

abbrev pub decreases-read_form : goal.decreases-read_form
decreases-read_form l = 2 * l.allow + 1

abbrev pub decreases-read_item : goal.decreases-read_item
decreases-read_item l = 2 * l.allow

abbrev pub invariant-read_form-loop-mark : goal.invariant-read_form-loop-mark
invariant-read_form-loop-mark l = ReadItems (4 - l.allow) l.initial.self l.self

abbrev pub decreases-read_form-loop-mark : goal.decreases-read_form-loop-mark
decreases-read_form-loop-mark l = length l.self.sheet.now - l.self.position

-- What reading a line tells.
use Rattle.std.specs.Prelude.{◌≡◌, ℕ, List, Ok, Err, Result}
use Rattle.grammar.specs.Forms.{Form, Lawful, line}
use Rattle.grammar.specs.Faults.{Fault, forbidden, too_long, too_deep, Faulty}
use Rattle.tasks.specs.declared.refusal.Refusal.{Refusal}
use Rattle.tasks.specs.declared.refusal.Refusal.TheVariants.{ForbiddenByte, LongNumber, DeepForm}
use Rattle.reader.specs.declared.reader.Line.{Line}
use Rattle.reader.specs.declared.reader.Reader.{Reader}
use Rattle.reader.specs.Tokens.{rest, Went}

-- the refusal that tells a fault of the grammar
abbrev pub refusal_for : Fault → Refusal
refusal_for (forbidden at) = ForbiddenByte at
refusal_for (too_long at) = LongNumber at
refusal_for (too_deep at) = DeepForm at

-- no lawful line stands first in the bytes, and the refusal tells why and where
pub record RefusedLine (start : ℕ) (bs : List ℕ) (y : Refusal) : Type 0 where
  pub fault : Fault
  pub faulty : Faulty start bs fault
  pub is : y ≡ refusal_for fault

-- the line l stands at a, is lawful, and b is the reader after it
pub record ReadLine (a : Reader) (l : Line) (b : Reader) : Type 0 where
  pub tree : Form
  pub lawful : Lawful tree 4
  pub bytes : l.bytes.now ≡ line tree
  pub at : l.at ≡ a.position
  pub went : Went a b (line tree)

-- a line is read, or it is refused and the reader stays
abbrev pub LineSteps : Reader → Result Line Refusal → Reader → Type 0
LineSteps a (Ok l) b = ReadLine a l b
LineSteps a (Err y) b = (b ≡ a) × RefusedLine a.position (rest a) y

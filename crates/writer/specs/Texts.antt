-- What a text stands for, and what it is to write one into a buffer.
use Rattle.std.specs.Prelude.{◌≡◌, ℕ, ◌<◌, ◌≤◌, List, ◌++◌, length, drop, Ok, Err, Result}
use Rattle.bounded.specs.Lists.{list_of}
use Rattle.tasks.specs.declared.refusal.Refusal.{Refusal}
use Rattle.tasks.specs.declared.refusal.Refusal.TheVariants.{ShortBuffer}
use Rattle.writer.specs.declared.text.Text.{Text}

-- its bytes
abbrev pub text_of : {n : ℕ} → Text n → List ℕ
text_of t = list_of t.bytes

-- bs stands over the front of the buffer and the rest is as it was; a buffer that is too short is left alone
abbrev pub Writes : List ℕ → List ℕ → Result ℕ Refusal → List ℕ → Type 0
Writes bs out (Ok n) after = (n ≡ length bs) × (length bs ≤ length out) × (after ≡ bs ++ drop (length bs) out)
Writes bs out (Err y) after = (y ≡ ShortBuffer (length bs)) × (length out < length bs) × (after ≡ out)

-- the text is the only one that tells of something, and it is written unless the buffer is too short for it
pub record WritesOnly (Tells : List ℕ → Type 0) (out : List ℕ) (r : Result ℕ Refusal) (after : List ℕ) : Type 0 where
  pub text : List ℕ
  pub tells : Tells text
  pub only : (other : List ℕ) → Tells other → other ≡ text
  pub writes : Writes text out r after

-- What is written where only one text tells of something. Assumes nothing.
use Rattle.std.proofs.Common.{◌≡◌, ℕ, List, Result}
use Rattle.tasks.specs.declared.refusal.Refusal.{Refusal}
use Rattle.writer.specs.Texts.{Writes, WritesOnly}

pub written_only : (Tells : List ℕ → Type 0) (one : (l m : List ℕ) → Tells l → Tells m → m ≡ l) (text out : List ℕ) (r : Result ℕ Refusal) (after : List ℕ) → Tells text → Writes text out r after → WritesOnly Tells out r after
written_only Tells one text out r after tells writes = record { text = text; tells = tells; only = λ m h. one text m tells h; writes = writes }

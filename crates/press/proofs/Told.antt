-- Only one line tells of a sheet. Assumes nothing.
use Rattle.std.proofs.Common.{◌≡◌, ℕ, List, sym, ap, ◌∙◌, inl, inr}
use Rattle.sheet.proofs.Once.{one_table, never_both, one_refusal}
use Rattle.writer.specs.Lines.{refusal_line, table_line}
use Rattle.press.specs.Answers.{LineFor}

pub one_line : (bs l m : List ℕ) → LineFor bs l → LineFor bs m → m ≡ l
one_line bs l m (inl a) (inl b) = b.2 ∙ ap table_line (one_table bs b.0 a.0 b.1 a.1) ∙ sym a.2
one_line bs l m (inl a) (inr b) = absurd (never_both bs a.0 b.0 a.1 b.1)
one_line bs l m (inr a) (inl b) = absurd (never_both bs b.0 a.0 b.1 a.1)
one_line bs l m (inr a) (inr b) = b.2 ∙ ap refusal_line (one_refusal bs b.0 a.0 b.1 a.1) ∙ sym a.2

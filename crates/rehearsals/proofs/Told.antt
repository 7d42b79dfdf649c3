-- Only one text tells of a sheet. Assumes nothing.
use Rattle.std.proofs.Common.{◌≡◌, ℕ, Bool, true, false, List, [], ◌∷◌, ◌++◌, map, length, codes, decimal, sym, refl, ap, ◌∙◌, subst, inl, inr, arith}
use Rattle.tasks.specs.declared.refusal.Refusal.{Refusal}
use Rattle.span.specs.Spans.{span_of}
use Rattle.tasks.specs.Tasks.{Task, Table, periods}
use Rattle.coretests.specs.Edf.{EdfAccepts, edf_limit}
use Rattle.cuts.specs.Orders.{mark}
use Rattle.cuts.specs.Allowed.{flags_at}
use Rattle.plans.specs.declared.types.Row.{Row}
use Rattle.plans.specs.Plans.{Lawful, Choice, cores, marks}
use Rattle.optimality.proofs.Greedy.{marks-length}
use Rattle.optimality.proofs.Unique.{fronts_same, one_choice_lem}
use Rattle.sheet.proofs.Once.{one_table, never_both, one_refusal}
use Rattle.sheet.specs.Sheets.{Granted}
use Rattle.writer.specs.Lines.{refusal_line}
use Rattle.plan_writer.specs.Lines.{cut_numbers, row_lines, plan_text}
use Rattle.rehearsals.specs.Answers.{Unplanned, TextFor}

-- flags with the same numbers are the same
flags_same : (fs gs : List Bool) → map mark fs ≡ map mark gs → fs ≡ gs
flags_same [] [] e = refl
flags_same [] (g ∷ gs) e = absurd (omega (arith, ap length e))
flags_same (f ∷ fs) [] e = absurd (omega (arith, ap length e))
flags_same (f ∷ fs) (g ∷ gs) e =
    let h : mark f ≡ mark g = cc in
    let t : map mark fs ≡ map mark gs = cc in
    λ i. one f g h i ∷ flags_same fs gs t i
  where
    one : (f g : Bool) → mark f ≡ mark g → f ≡ g
    one true true e = refl
    one true false e = absurd (omega arith)
    one false true e = absurd (omega arith)
    one false false e = refl

-- rows with the same cores and flags have the same lines
lines_same : (ts : List Task) (rs qs : List Row) → cores rs ≡ cores qs → marks ts rs ≡ marks ts qs → row_lines ts rs ≡ row_lines ts qs
lines_same ts [] [] c m = refl
lines_same ts [] (q ∷ qs) c m = absurd (omega (arith, ap length c))
lines_same ts (r ∷ rs) [] c m = absurd (omega (arith, ap length c))
lines_same [] (r ∷ rs) (q ∷ qs) c m = refl
lines_same (t ∷ ts) (r ∷ rs) (q ∷ qs) c m =
    let core : r.core ≡ q.core = cc in
    let others : cores rs ≡ cores qs = cc in
    let parts = fronts_same (map mark (flags_at t.points r.cuts)) (map mark (flags_at t.points q.cuts)) (marks ts rs) (marks ts qs) (marks-length t.points r.cuts q.cuts) m in
    let flags = flags_same (flags_at t.points r.cuts) (flags_at t.points q.cuts) parts.0 in
    let rest = lines_same ts rs qs others parts.1 in
    λ i. codes "(on " ++ decimal (core i) ++ codes " (id " ++ decimal t.id ++ codes ") (cuts" ++ cut_numbers 1 (flags i) ++ codes "))\n" ++ rest i

one_text_of : (table : Table) (rs qs : List Row) → Choice EdfAccepts edf_limit table rs → Choice EdfAccepts edf_limit table qs → plan_text table rs ≡ plan_text table qs
one_text_of table rs qs p q =
    let same = one_choice_lem EdfAccepts edf_limit table rs qs p q in
    let lines = lines_same table.tasks rs qs same.1 same.2 in
    λ i. codes "(plan (cores " ++ decimal table.cores ++ codes ") (span " ++ decimal (span_of (periods table.tasks)) ++ codes ") (cost " ++ decimal (same.0 i) ++ codes "))\n" ++ lines i

-- a sheet with a plan has no other answer
planned : (bs : List ℕ) (table : Table) (rows : List Row) (y : Refusal) → Granted bs table [] → Choice EdfAccepts edf_limit table rows → Unplanned bs y → ⊥
planned bs table rows y g p (inl refused) = never_both bs table y g refused
planned bs table rows y g p (inr none) = none.2 rows (subst (λ t. Lawful EdfAccepts edf_limit t rows) (one_table bs table none.0 g none.1) p.lawful)

unplanned : (bs : List ℕ) (y z : Refusal) → Unplanned bs y → Unplanned bs z → y ≡ z
unplanned bs y z (inl a) (inl b) = one_refusal bs y z a b
unplanned bs y z (inl a) (inr b) = absurd (never_both bs b.0 y b.1 a)
unplanned bs y z (inr a) (inl b) = absurd (never_both bs a.0 z a.1 b)
unplanned bs y z (inr a) (inr b) = a.3 ∙ sym b.3

pub one_text : (bs l m : List ℕ) → TextFor bs l → TextFor bs m → m ≡ l
one_text bs l m (inl a) (inl b) =
    let table = one_table bs b.0 a.0 b.2 a.2 in
    b.4 ∙ ap (λ t. plan_text t b.1) table ∙ one_text_of a.0 b.1 a.1 (subst (λ t. Choice EdfAccepts edf_limit t b.1) table b.3) a.3 ∙ sym a.4
one_text bs l m (inl a) (inr b) = absurd (planned bs a.0 a.1 b.0 a.2 a.3 b.1)
one_text bs l m (inr a) (inl b) = absurd (planned bs b.0 b.1 a.0 b.2 b.3 a.1)
one_text bs l m (inr a) (inr b) = b.2 ∙ ap refusal_line (unplanned bs b.0 a.0 b.1 a.1) ∙ sym a.2

-- Reading a sheet has one outcome: one table, or one refusal and the one table that it leaves. Assumes nothing.
use Rattle.std.proofs.Common.{◌≡◌, ℕ, ◌+◌, ◌<◌, ◌⊎◌, List, [], ◌∷◌, ◌++◌, length, Some, None, Option, sym, refl, ap, ◌∙◌, subst, inl, inr, append_assoc, arith, length-append}
use Rattle.std.specs.List.{All}
use Rattle.std.proofs.lemmas.List.Elements.{All-head, All-tail}
use Rattle.grammar.specs.Forms.{Form, Lawful, line}
use Rattle.grammar.specs.Faults.{Leads}
use Rattle.grammar.proofs.Steps.{some_is, none_some}
use Rattle.grammar.proofs.Exactly.{not_both, one_line, one_refusal as one_fault}
use Rattle.reader.specs.Lines.{RefusedLine, refusal_for}
use Rattle.fields.specs.Wanted.{value, sheet_form, Written, task_form, IsTask, values_of}
use Rattle.fields.proofs.Shaped.{sheet_lawful, task_lawful, sheet_same, task_same}
use Rattle.tasks.specs.declared.refusal.Refusal.{Refusal}
use Rattle.tasks.specs.declared.refusal.Refusal.TheVariants.{WrongFields}
use Rattle.tasks.specs.Tasks.{Table, with_task, empty_on}
use Rattle.tasks.specs.Tables.{new_draft_refusal, add_refusal}
use Rattle.sheet.specs.Lines.{Misshapen, CoresRefused, TaskRefused, FirstRefused, LaterRefused}
use Rattle.sheet.specs.Sheets.{task_lines, AllAdded, Granted, place_of, RefusedAfter, SheetRefused}
use Rattle.sheet.proofs.Shortened.{granted_anywhere}

-- One line. The wanted forms are those of a shape, and the reason is why one of them is refused at a place, if it is.

module _ {X : Type 0} (shape : X → Form) (reason : ℕ → X → Option Refusal) (at : ℕ) where
  -- a line of the shape stands first in the bytes, and o is the reason of its refusal, or none
  record Stands (bs : List ℕ) (o : Option Refusal) : Type 0 where
    of : X
    lawful : Lawful (shape of) 4
    tail : List ℕ
    is : bs ≡ line (shape of) ++ tail
    told : reason at of ≡ o

  -- what a lawful form is refused for, if it is: the reason tells, or the form is none of the shape
  data Judged (f : Form) (o : Option Refusal) : Type 0 where
    shaped : (x : X) → f ≡ shape x → reason at x ≡ o → Judged f o
    other : ((x : X) × (f ≡ shape x) → ⊥) → o ≡ Some (WrongFields at) → Judged f o

  -- what the first line of the bytes is refused for, if it is: a fault of the grammar, or what its form is
  data Verdict (bs : List ℕ) (o : Option Refusal) : Type 0 where
    faulty : (y : Refusal) → RefusedLine at bs y → o ≡ Some y → Verdict bs o
    leads : (l : Leads bs) → Judged l.tree o → Verdict bs o

  abbrev stands_leads : (bs : List ℕ) (o : Option Refusal) → Stands bs o → Leads bs
  stands_leads bs o s = record { tree = shape s.of; lawful = s.lawful; tail = s.tail; is = s.is }

  verdict : (bs : List ℕ) (o : Option Refusal) → Stands bs o → Verdict bs o
  verdict bs o s = leads (stands_leads bs o s) (shaped s.of refl s.told)

  -- a line that is refused for its grammar, for its words and fields, or, as R says, by the reason
  verdict_refused : {R : Type 0} (bs : List ℕ) (y : Refusal) → (R → Stands bs (Some y)) → RefusedLine at bs y ⊎ (Misshapen (λ f. (x : X) × (f ≡ shape x)) at bs y ⊎ R) → Verdict bs (Some y)
  verdict_refused bs y stands (inl r) = faulty y r refl
  verdict_refused bs y stands (inr (inl m)) = leads (record { tree = m.tree; lawful = m.lawful; tail = m.left; is = m.is }) (other m.other (ap Some m.told))
  verdict_refused bs y stands (inr (inr r)) = verdict bs (Some y) (stands r)

-- one shape, one place, the same bytes: one verdict
module _ {X : Type 0} (shape : X → Form) (alike : (x y : X) → shape x ≡ shape y → x ≡ y) (reason : ℕ → X → Option Refusal) (at : ℕ) (bs : List ℕ) where
  one_standing : (a b : Stands shape reason at bs None) → (a.of ≡ b.of) × (a.tail ≡ b.tail)
  one_standing a b =
      let same = one_line bs (stands_leads shape reason at bs None a) (stands_leads shape reason at bs None b) in
      (alike a.of b.of same.0, same.1)

  one_judgement : (f : Form) (o p : Option Refusal) → Judged shape reason at f o → Judged shape reason at f p → o ≡ p
  one_judgement f o p (shaped x e r) (shaped y d s) = sym r ∙ ap (reason at) (alike x y (sym e ∙ d)) ∙ s
  one_judgement f o p (shaped x e r) (other never s) = absurd (never (x, e))
  one_judgement f o p (other never r) (shaped y d s) = absurd (never (y, d))
  one_judgement f o p (other never r) (other nor s) = r ∙ sym s

  one_verdict : (o p : Option Refusal) → Verdict shape reason at bs o → Verdict shape reason at bs p → o ≡ p
  one_verdict o p (faulty y r e) (faulty z s d) = e ∙ ap Some (r.is ∙ ap refusal_for (one_fault at bs r.fault s.fault r.faulty s.faulty) ∙ sym s.is) ∙ sym d
  one_verdict o p (faulty y r e) (leads l j) = absurd (not_both at bs r.fault l r.faulty)
  one_verdict o p (leads l j) (faulty z s d) = absurd (not_both at bs s.fault l s.faulty)
  one_verdict o p (leads l j) (leads m k) = one_judgement m.tree o p (subst (λ f. Judged shape reason at f o) (one_line bs l m).0 j) k

  not_refused : (y : Refusal) → Stands shape reason at bs None → Verdict shape reason at bs (Some y) → ⊥
  not_refused y s v = none_some (one_verdict None (Some y) (verdict shape reason at bs None s) v)

-- what holds of a line and of the bytes after it holds of equal ones
carried : {X : Type 0} (P : X → List ℕ → Type 0) {x y : X} {l m : List ℕ} → (x ≡ y) × (l ≡ m) → P x l → P y m
carried P {y = y} {l = l} e h = subst (P y) e.1 (subst (λ z. P z l) e.0 h)

-- The two kinds of lines, and the reason of each.

abbrev cores_reason : ℕ → List ℕ → Option Refusal
cores_reason at digits = new_draft_refusal at (value digits)

abbrev task_reason : Table → ℕ → Written → Option Refusal
task_reason table at w = add_refusal at table (values_of w)

first_verdict : (at : ℕ) (bs : List ℕ) (y : Refusal) → FirstRefused at bs y → Verdict sheet_form cores_reason at bs (Some y)
first_verdict at bs y = verdict_refused sheet_form cores_reason at bs y stands
  where
    stands : CoresRefused at bs y → Stands sheet_form cores_reason at bs (Some y)
    stands c = record { of = c.digits; lawful = sheet_lawful c.digits c.lawful; tail = c.left; is = c.is; told = c.told }

later_verdict : (table : Table) (at : ℕ) (bs : List ℕ) (y : Refusal) → LaterRefused table at bs y → Verdict task_form (task_reason table) at bs (Some y)
later_verdict table at bs y = verdict_refused task_form (task_reason table) at bs y stands
  where
    stands : TaskRefused table at bs y → Stands task_form (task_reason table) at bs (Some y)
    stands t = record { of = t.written; lawful = task_lawful t.written t.lawful; tail = t.left; is = t.is; told = t.told }

-- The task lines, one after another.

-- no byte is left, or the next line is refused
abbrev Ends : Table → ℕ → List ℕ → Option Refusal → Type 0
Ends table at left None = left ≡ []
Ends table at left (Some y) = (0 < length left) × LaterRefused table at left y

-- from the table and the bytes at a place on, granted lines lead to the table `after`, and there the reading ends
data Walk : Table → ℕ → List ℕ → Option Refusal → Table → Type 0 where
  ends : {table after : Table} {at : ℕ} {bs : List ℕ} {o : Option Refusal} → Ends table at bs o → after ≡ table → Walk table at bs o after
  goes : {table after : Table} {at : ℕ} {bs : List ℕ} {o : Option Refusal} (s : Stands task_form (task_reason table) at bs None) → Walk (with_task table (values_of s.of)) (at + length (line (task_form s.of))) s.tail o after → Walk table at bs o after

one_end : (table : Table) (at : ℕ) (bs : List ℕ) (o p : Option Refusal) → Ends table at bs o → Ends table at bs p → o ≡ p
one_end table at bs None None a b = refl
one_end table at bs None (Some z) a b = absurd (omega (arith, ap length a, b.0))
one_end table at bs (Some y) None a b = absurd (omega (arith, a.0, ap length b))
one_end table at bs (Some y) (Some z) a b = one_verdict task_form task_same (task_reason table) at bs (Some y) (Some z) (later_verdict table at bs y a.1) (later_verdict table at bs z b.1)

-- where a granted line stands, the reading does not end
no_end : (table : Table) (at : ℕ) (bs : List ℕ) (o : Option Refusal) → Stands task_form (task_reason table) at bs None → Ends table at bs o → ⊥
no_end table at bs None s e = let never : [] ≡ line (task_form s.of) ++ s.tail = sym e ∙ s.is in cc
no_end table at bs (Some y) s e = not_refused task_form task_same (task_reason table) at bs y s (later_verdict table at bs y e.1)

one_walk : (table : Table) (at : ℕ) (bs : List ℕ) (o p : Option Refusal) (t u : Table) → Walk table at bs o t → Walk table at bs p u → (o ≡ p) × (t ≡ u)
one_walk table at bs o p t u (ends e a) (ends d b) = (one_end table at bs o p e d, a ∙ sym b)
one_walk table at bs o p t u (ends e a) (goes s g) = absurd (no_end table at bs o s e)
one_walk table at bs o p t u (goes s g) (ends d b) = absurd (no_end table at bs p s d)
one_walk table at bs o p t u (goes s g) (goes r h) =
    let same = one_standing task_form task_same (task_reason table) at bs r s in
    one_walk _ _ _ o p t u g (carried (λ w tail. Walk (with_task table (values_of w)) (at + length (line (task_form w))) tail p u) same h)

-- granted lines are walked to where they end
walked : (ws : List Written) (table : Table) (at : ℕ) (left : List ℕ) (o : Option Refusal) (after : Table) (end : ℕ) → All IsTask ws → AllAdded table ws after → end ≡ at + length (task_lines ws) → Ends after end left o → Walk table at (task_lines ws ++ left) o after
walked [] table at left o after end l a here e =
    let start : end ≡ at = omega arith in
    ends (subst (λ n. Ends table n left o) start (subst (λ t. Ends t end left o) a e)) a
walked (w ∷ ws) table at left o after end l a here e =
    let one = line (task_form w) in
    let there : end ≡ at + length one + length (task_lines ws) = omega (arith, length-append one (task_lines ws)) in
    goes
    (record { of = w; lawful = task_lawful w (All-head IsTask w ws l); tail = task_lines ws ++ left; is = append_assoc one (task_lines ws) left; told = granted_anywhere 0 at table (values_of w) a.0 })
    (walked ws (with_task table (values_of w)) (at + length one) left o after end (All-tail IsTask w ws l) a.1 there e)

-- The whole sheet.

-- what reading the bytes tells, and the table that it leaves; none, where the first line is refused
data Outcome (bs : List ℕ) : Option Refusal → Option Table → Type 0 where
  first : {y : Refusal} → FirstRefused 0 bs y → Outcome bs (Some y) None
  later : {o : Option Refusal} {after : Table} (s : Stands sheet_form cores_reason 0 bs None) → Walk (empty_on (value s.of)) (length (line (sheet_form s.of))) s.tail o after → Outcome bs o (Some after)

one_outcome : (bs : List ℕ) (o p : Option Refusal) (l m : Option Table) → Outcome bs o l → Outcome bs p m → (o ≡ p) × (l ≡ m)
one_outcome bs o p l m (first {y = y} r) (first {y = z} q) = (one_verdict sheet_form sheet_same cores_reason 0 bs (Some y) (Some z) (first_verdict 0 bs y r) (first_verdict 0 bs z q), refl)
one_outcome bs o p l m (first {y = y} r) (later s g) = absurd (not_refused sheet_form sheet_same cores_reason 0 bs y s (first_verdict 0 bs y r))
one_outcome bs o p l m (later s g) (first {y = z} q) = absurd (not_refused sheet_form sheet_same cores_reason 0 bs z s (first_verdict 0 bs z q))
one_outcome bs o p l m (later {after = t} s g) (later {after = u} r h) =
    let same = one_standing sheet_form sheet_same cores_reason 0 bs r s in
    let one = one_walk _ _ _ o p t u g (carried (λ digits tail. Walk (empty_on (value digits)) (length (line (sheet_form digits))) tail p u) same h) in
    (one.0, ap Some one.1)

-- granted lines and their end are an outcome
begun : (bs : List ℕ) (o : Option Refusal) (table : Table) (left : List ℕ) (g : Granted bs table left) → Ends table (place_of bs table left g) left o → Outcome bs o (Some table)
begun bs o table left g e =
    let head = line (sheet_form g.digits) in
    let lines = task_lines g.written in
    later
    (record { of = g.digits; lawful = sheet_lawful g.digits g.number; tail = lines ++ left; is = g.is ∙ append_assoc head lines left; told = g.cores })
    (walked g.written (empty_on (value g.digits)) (length head) left o table (place_of bs table left g) g.lawful g.added (length-append head lines) e)

granted_outcome : (bs : List ℕ) (t : Table) → Granted bs t [] → Outcome bs None (Some t)
granted_outcome bs t g = begun bs None t [] g refl

broken_outcome : (bs : List ℕ) (t : Table) (y : Refusal) → RefusedAfter bs t y → Outcome bs (Some y) (Some t)
broken_outcome bs t y b = begun bs (Some y) t b.left b.granted (b.some, b.refused)

refused_outcome : (bs : List ℕ) (y : Refusal) → SheetRefused bs y → (t : Option Table) × Outcome bs (Some y) t
refused_outcome bs y (inl r) = (None, first r)
refused_outcome bs y (inr (t, b)) = (Some t, broken_outcome bs t y b)

-- The theorems.

module _ (bs : List ℕ) where
  pub one_table : (t u : Table) → Granted bs t [] → Granted bs u [] → t ≡ u
  one_table t u g h = some_is (one_outcome bs _ _ _ _ (granted_outcome bs t g) (granted_outcome bs u h)).1

  pub never_both : (t : Table) (y : Refusal) → Granted bs t [] → SheetRefused bs y → ⊥
  never_both t y g r = none_some (one_outcome bs _ _ _ _ (granted_outcome bs t g) (refused_outcome bs y r).1).0

  pub one_refusal : (y z : Refusal) → SheetRefused bs y → SheetRefused bs z → y ≡ z
  one_refusal y z r q = some_is (one_outcome bs _ _ _ _ (refused_outcome bs y r).1 (refused_outcome bs z q).1).0

  pub one_left : (t u : Table) (y z : Refusal) → RefusedAfter bs t y → RefusedAfter bs u z → t ≡ u
  one_left t u y z b c = some_is (one_outcome bs _ _ _ _ (broken_outcome bs t y b) (broken_outcome bs u z c)).1

  pub first_or_later : (t : Table) (y z : Refusal) → FirstRefused 0 bs y → RefusedAfter bs t z → ⊥
  first_or_later t y z r b = none_some (one_outcome bs _ _ _ _ (first r) (broken_outcome bs t z b)).1

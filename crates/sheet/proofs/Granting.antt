-- One granted line after another. Assumes nothing.
use Rattle.std.proofs.Common.{◌≡◌, ℕ, ◌<◌, List, [], ◌∷◌, ◌++◌, length, None, Err, sym, ap, ◌∙◌, subst, inr, append_assoc, append-nil, arith, length-append}
use Rattle.std.proofs.lemmas.List.Elements.{All-nil, All-push}
use Rattle.grammar.specs.Forms.{line}
use Rattle.fields.specs.Wanted.{value, sheet_form, Written, task_form, IsTask, values_of}
use Rattle.reader.specs.declared.reader.Reader.{Reader}
use Rattle.reader.specs.Tokens.{rest}
use Rattle.tasks.specs.declared.refusal.Refusal.{Refusal}
use Rattle.tasks.specs.declared.table.Draft.{Draft}
use Rattle.tasks.specs.Tasks.{Table, with_task, empty_on}
use Rattle.tasks.specs.Tables.{drafted, new_draft_refusal, add_refusal}
use Rattle.sheet.specs.Lines.{LaterRefused}
use Rattle.sheet.specs.Sheets.{task_lines, sheet_lines, AllAdded, Granted, place_of, RefusedAfter, Reads}
use Rattle.sheet.specs.Steps.{CoresRead, TaskRead}
use Rattle.sheet.proofs.Shortened.{granted_anywhere}

all_added_more : (table after : Table) (ws : List Written) (w : Written) → AllAdded table ws after → add_refusal 0 after (values_of w) ≡ None → AllAdded table (ws ++ w ∷ []) (with_task after (values_of w))
all_added_more table after [] w a n = (subst (λ t. add_refusal 0 t (values_of w) ≡ None) a n, ap (λ t. with_task t (values_of w)) a)
all_added_more table after (v ∷ ws) w a n = (a.0, all_added_more (with_task table (values_of v)) after ws w a.1 n)

task_lines_more : (ws : List Written) (w : Written) → task_lines (ws ++ w ∷ []) ≡ task_lines ws ++ line (task_form w)
task_lines_more [] w = append-nil (line (task_form w))
task_lines_more (v ∷ ws) w = ap (λ l. line (task_form v) ++ l) (task_lines_more ws w) ∙ sym (append_assoc (line (task_form v)) (task_lines ws) (line (task_form w)))

-- the reader stands after granted lines, which make the table
pub record Reached (bs : List ℕ) (r : Reader) (table : Table) : Type 0 where
  pub granted : Granted bs table (rest r)
  pub here : r.position ≡ place_of bs table (rest r) granted

regroup : (h t l r : List ℕ) → (h ++ t) ++ (l ++ r) ≡ (h ++ (t ++ l)) ++ r
regroup h t l r = simp append_assoc

pub reached_first : (bs : List ℕ) (a b : Reader) (e : Draft) → rest a ≡ bs → a.position ≡ 0 → CoresRead a b e → Reached bs b (drafted e)
reached_first bs a b e is start c =
    let bytes : bs ≡ sheet_lines c.digits [] ++ rest b = sym is ∙ c.went.bytes ∙ ap (λ l. l ++ rest b) (sym (append-nil (line (sheet_form c.digits)))) in
    let long : length (sheet_lines c.digits []) ≡ length (line (sheet_form c.digits)) = ap length (append-nil (line (sheet_form c.digits))) in
    record {
      granted = record {
        digits = c.digits;
        number = c.number;
        cores = subst (λ n. new_draft_refusal n (value c.digits) ≡ None) start c.granted;
        written = [];
        lawful = All-nil IsTask;
        added = c.holds;
        is = bytes;
      };
      here = omega (arith, c.went.to, long);
    }

pub reached_more : (bs : List ℕ) (a b : Reader) (d e : Draft) → Reached bs a (drafted d) → TaskRead a b d e → Reached bs b (drafted e)
reached_more bs a b d e r t =
    let g = r.granted in
    let ws = g.written in
    let more = task_lines_more ws t.written in
    let head = line (sheet_form g.digits) in
    let one = line (task_form t.written) in
    let longer : sheet_lines g.digits (ws ++ t.written ∷ []) ≡ (head ++ task_lines ws) ++ one = ap (λ l. head ++ l) more ∙ sym (append_assoc head (task_lines ws) one) in
    record {
      granted = record {
        digits = g.digits;
        number = g.number;
        cores = g.cores;
        written = ws ++ t.written ∷ [];
        lawful = All-push IsTask ws t.written g.lawful t.lawful;
        added = subst (AllAdded (empty_on (value g.digits)) (ws ++ t.written ∷ [])) (sym t.holds) (all_added_more (empty_on (value g.digits)) (drafted d) ws t.written g.added (granted_anywhere a.position 0 (drafted d) (values_of t.written) t.granted));
        is = g.is ∙ ap (λ l. (head ++ task_lines ws) ++ l) t.went.bytes ∙ sym (append_assoc (head ++ task_lines ws) one (rest b)) ∙ ap (λ l. l ++ rest b) (sym longer);
      };
      here = omega (arith, t.went.to, r.here, ap length longer, length-append (head ++ task_lines ws) one);
    }

pub reads_broken : (bs : List ℕ) (a : Reader) (d was e : Draft) (y : Refusal) → Reached bs a (drafted was) → 0 < length (rest a) → (e ≡ was) × LaterRefused (drafted was) a.position (rest a) y → Reads bs d (Err y) e
reads_broken bs a d was e y r some h =
    inr
    (subst (λ t. RefusedAfter bs (drafted t) y) (sym h.0)
    (record { left = rest a; some = some; granted = r.granted; refused = subst (λ n. LaterRefused (drafted was) n (rest a) y) r.here h.1 }))

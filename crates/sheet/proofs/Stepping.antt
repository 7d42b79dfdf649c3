-- What a lawful line does, by its fields and by what the draft answered. Assumes nothing.
use Rattle.std.proofs.Common.{◌≡◌, ℕ, ◌++◌, Some, None, Ok, Err, Result, ap, subst, inl, inr}
use Rattle.grammar.specs.Forms.{Form, line}
use Rattle.reader.specs.declared.reader.Line.{Line}
use Rattle.reader.specs.declared.reader.Reader.{Reader}
use Rattle.reader.specs.Tokens.{rest, Went}
use Rattle.reader.specs.Lines.{ReadLine}
use Rattle.fields.specs.declared.values.TaskLine.{TaskLine}
use Rattle.fields.specs.Wanted.{Written, task_form, IsTask, values_of}
use Rattle.fields.specs.Values.{kept, CoresOf, TaskOf}
use Rattle.fields.proofs.Shaped.{cores_some, task_some, task-none}
use Rattle.tasks.specs.declared.refusal.Refusal.{Refusal}
use Rattle.tasks.specs.declared.refusal.Refusal.TheVariants.{WrongFields}
use Rattle.tasks.specs.declared.table.Draft.{Draft}
use Rattle.tasks.specs.Tasks.{empty_on}
use Rattle.tasks.specs.Tables.{drafted, new_draft_refusal, Adds, NewDraft}
use Rattle.sheet.specs.Lines.{AsTask, Misshapen, LaterRefused}
use Rattle.sheet.specs.Steps.{FirstSteps, LaterSteps}
use Rattle.sheet.proofs.Shortened.{shortened, adds_whole}

misshapen : (Wanted : Form → Type 0) (a b : Reader) (l : Line) (h : ReadLine a l b) → (Wanted h.tree → ⊥) → Misshapen Wanted a.position (rest a) (WrongFields l.at)
misshapen Wanted a b l h never = record { tree = h.tree; lawful = h.lawful; left = rest b; is = h.went.bytes; other = never; told = ap WrongFields h.at }

module _ (a b : Reader) (l : Line) (h : ReadLine a l b) (d e : Draft) where
  pub task_misshapen : TaskOf l.bytes.now None → LaterRefused (drafted d) a.position (rest a) (WrongFields l.at)
  task_misshapen never = inr (inl (misshapen AsTask a b l h (λ k. task-none h.tree l.bytes.now h.lawful h.bytes never k.0 k.1)))

  pub cores_steps : (v : ℕ) (r : Result (Unit {0}) Refusal) → CoresOf l.bytes.now (Some v) → NewDraft l.at d v r e → FirstSteps a d r b e
  cores_steps v (Ok u) k g =
      let s = cores_some h.tree l.bytes.now h.lawful h.bytes v k in
      record {
        digits = s.0;
        number = s.1;
        went = subst (λ f. Went a b (line f)) s.3 h.went;
        granted = subst (λ n. new_draft_refusal a.position n ≡ None) s.2 (subst (λ n. new_draft_refusal n v ≡ None) h.at g.0);
        holds = subst (λ n. drafted e ≡ empty_on n) s.2 g.1;
      }
  cores_steps v (Err y) k g =
      let s = cores_some h.tree l.bytes.now h.lawful h.bytes v k in (
        g.1,
        inr
            (inr
            (record {
              digits = s.0;
              lawful = s.1;
              left = rest b;
              is = subst (λ f. rest a ≡ line f ++ rest b) s.3 h.went.bytes;
              told = subst (λ n. new_draft_refusal a.position n ≡ Some y) s.2 (subst (λ n. new_draft_refusal n v ≡ Some y) h.at g.0);
            })),
      )

  task_adds : (w : Written) → IsTask w → h.tree ≡ task_form w → (r : Result (Unit {0}) Refusal) → Adds a.position d (values_of w) r e → LaterSteps a d r b e
  task_adds w t same (Ok u) g = record { written = w; lawful = t; went = subst (λ f. Went a b (line f)) same h.went; granted = g.0; holds = g.1 }
  task_adds w t same (Err y) g = (g.1, inr (inr (record { written = w; lawful = t; left = rest b; is = subst (λ f. rest a ≡ line f ++ rest b) same h.went.bytes; told = g.0 })))

  pub task_steps : (v : TaskLine) (r : Result (Unit {0}) Refusal) → TaskOf l.bytes.now (Some v) → Adds l.at d (kept v) r e → LaterSteps a d r b e
  task_steps v r k g =
      let s = task_some h.tree l.bytes.now h.lawful h.bytes v k in
      let t = s.2 in
      -- what the line keeps is the task of its values, its lists cut off
      let cut : kept v ≡ shortened (values_of s.0) = cc in
      task_adds s.0 s.1 s.3 r (adds_whole a.position d e (values_of s.0) r (subst (λ x. Adds a.position d x r e) cut (subst (λ n. Adds n d (kept v) r e) h.at g)))

-- Whole lines, and lines that are refused. Assumes nothing.
use Rattle.std.proofs.Common.{◌≡◌, ℕ, ◌+◌, ◌-◌, List, [], ◌∷◌, ◌++◌, length, take, Some, sym, refl, ap, ◌∙◌, subst, append-nil, arith}
use Rattle.std.proofs.lemmas.List.{take_at}
use Rattle.grammar.specs.Kinds.{kind}
use Rattle.grammar.specs.Faults.{forbidden, Faulty, Whole}
use Rattle.grammar.specs.States.{Start, Word, Closed, Done, run, fault_of}
use Rattle.grammar.proofs.Runs.{run_step}
use Rattle.grammar.proofs.Reach.{reached}
use Rattle.grammar.proofs.Stuck.{refuse, refuse_end}
use Rattle.tasks.specs.declared.refusal.Refusal.{Refusal}
use Rattle.reader.specs.Tokens.{rest, Went, Past}
use Rattle.reader.specs.Lines.{RefusedLine, ReadLine}
use Rattle.reader.specs.Progress.{Tells, Stuck, ReadForm}
use Rattle.reader.specs.declared.reader.Line.{Line}
use Rattle.reader.specs.declared.reader.Reader.{Reader}
use Rattle.reader.specs.declared.reader.TokenAt.{TokenAt}
use Rattle.reader.specs.declared.reader.Token.TheVariants as tokens
use Rattle.reader.proofs.Stalled.{went_then, went_token, run_then}

-- what is stuck from the start of a line is refused
pub stuck_refused : (bs : List ℕ) (start : ℕ) (y : Refusal) → Stuck Start bs start y → RefusedLine start bs y
stuck_refused bs start y k = cases k.left k.split k.told
  where
    cases : (left : List ℕ) → bs ≡ k.front ++ left → Tells k.state left (start + length k.front) y → RefusedLine start bs y
    cases [] split told =
        let fault = forbidden (start + length k.front) in
        record {
          fault = fault;
          faulty = subst (λ l. Faulty start l fault) (sym (split ∙ append-nil k.front)) (refuse_end k.state k.front start k.runs k.undone);
          is = told;
        }
    cases (c ∷ q) split told =
        let fault = fault_of k.state (kind c) (start + length k.front) in
        record {
          fault = fault;
          faulty = subst (λ l. Faulty start l fault) (sym split) (refuse k.state k.front c q start k.runs k.undone told.0);
          is = told.1;
        }

-- a line's '(' is read
pub open_runs : {a b : Reader} {t : TokenAt} → Past a t b → t.token ≡ tokens.Open → Went a b (40 ∷ []) × (run Start (40 ∷ []) ≡ Some (Word 1 0))
open_runs p is = (went_token p is, refl)

-- a line's form is read
pub form_runs : {a b e : Reader} {t : TokenAt} → Past a t b → t.token ≡ tokens.Open → (f : ReadForm 1 b e) → Went a e (40 ∷ f.bs) × (run Start (40 ∷ f.bs) ≡ Some (Closed 0))
form_runs p is f = (went_then (went_token p is) f.went, run_step Start (Word 1 0) 40 f.bs refl ∙ f.runs)

-- a line is read, its line feed with it
pub line_read : {a b e g : Reader} {t u : TokenAt} (l : Line) → Past a t b → t.token ≡ tokens.Open → ReadForm 1 b e → Past e u g → u.token ≡ tokens.LineFeed → l.bytes.now ≡ take (g.position - a.position) (rest a) → l.at ≡ a.position → ReadLine a l g
line_read {a} {b} {e} {g} l po io f pf if bytes at =
    let r = form_runs po io f in
    let p : List ℕ = (40 ∷ f.bs) ++ 10 ∷ [] in
    let went : Went a g p = went_then r.0 (went_token pf if) in
    let w : Whole p = reached p Done (run_then Start (Closed 0) (40 ∷ f.bs) (10 ∷ []) r.1) in
    let long : length p ≡ g.position - a.position = omega (arith, went.to) in
    record {
      tree = w.tree;
      lawful = w.lawful;
      bytes = bytes ∙ ap (take (g.position - a.position)) went.bytes ∙ take_at p (rest g) (g.position - a.position) long ∙ sym w.is;
      at = at;
      went = subst (Went a g) (sym w.is) went;
    }

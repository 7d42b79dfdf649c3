-- What an answer says of a lawful form whose line the bytes are. Assumes nothing.
use Rattle.std.proofs.Common.{◌≡◌, ℕ, ◌<◌, ◌≤◌, Bool, true, ◌&&◌, leb, List, [], ◌∷◌, length, Some, None, codes, sym, refl, ap, ◌∙◌, subst, append-nil, arith}
use Rattle.std.proofs.lemmas.Bool.Decides.{nat_tests}
use Rattle.std.specs.List.{All}
use Rattle.std.proofs.lemmas.List.Elements.{All-nil, All-cons, All-head, All-tail}
use Rattle.grammar.specs.Forms.{Form, line, IsLetter, IsWord, IsNumber, Lawful, Lawfuls}
use Rattle.grammar.proofs.Same.{lawful_spelt, line_same}
use Rattle.fields.specs.Wanted.{value, numerals, sheet_form, Written, task_form, AreNumbers, IsTask}
use Rattle.fields.specs.Values.{HasTask, CoresOf, TaskOf}
use Rattle.fields.specs.declared.values.TaskLine.{TaskLine}

-- a wanted form is lawful just where its numbers are

abbrev lettersb : List ℕ → Bool
lettersb [] = true
lettersb (c ∷ cs) = (leb 97 c && leb c 122) && lettersb cs

all_letters : (w : List ℕ) → lettersb w ≡ true → All IsLetter w
all_letters [] e = All-nil IsLetter
all_letters (c ∷ cs) e = All-cons IsLetter c cs (grind (arith, nat_tests), grind (arith, nat_tests)) (all_letters cs (grind (arith, nat_tests)))

is_word : (w : List ℕ) → 0 < length w → length w ≤ 8 → lettersb w ≡ true → IsWord w
is_word w some few e = (some, few, all_letters w e)

numerals_lawful : (ns : List (List ℕ)) (n : ℕ) → AreNumbers ns → Lawfuls (numerals ns) n
numerals_lawful [] n a = tt
numerals_lawful (d ∷ ns) n a = (All-head IsNumber d ns a, numerals_lawful ns n (All-tail IsNumber d ns a))

lawful_numerals : (ns : List (List ℕ)) (n : ℕ) → Lawfuls (numerals ns) n → AreNumbers ns
lawful_numerals [] n l = All-nil IsNumber
lawful_numerals (d ∷ ns) n l = All-cons IsNumber d ns l.0 (lawful_numerals ns n l.1)

pub sheet_lawful : (ds : List ℕ) → IsNumber ds → Lawful (sheet_form ds) 4
sheet_lawful ds n = (is_word (codes "sheet") (omega arith) (omega arith) refl, ((is_word (codes "cores") (omega arith) (omega arith) refl, (n, tt)), tt))

pub lawful_sheet : (ds : List ℕ) → Lawful (sheet_form ds) 4 → IsNumber ds
lawful_sheet ds l = l.1.0.1.0

pub task_lawful : (w : Written) → IsTask w → Lawful (task_form w) 4
task_lawful w l = (
  is_word (codes "task") (omega arith) (omega arith) refl,
  (
    (is_word (codes "id") (omega arith) (omega arith) refl, (l.id, tt)),
    (
      (is_word (codes "period") (omega arith) (omega arith) refl, (l.period, tt)),
      (
        (is_word (codes "deadline") (omega arith) (omega arith) refl, (l.deadline, tt)),
        (
          (is_word (codes "blocks") (omega arith) (omega arith) refl, numerals_lawful w.blocks 2 l.blocks),
          ((is_word (codes "points") (omega arith) (omega arith) refl, numerals_lawful w.points 2 l.points), tt),
        ),
      ),
    ),
  ),
)

pub lawful_task : (w : Written) → Lawful (task_form w) 4 → IsTask w
lawful_task w l =
    let a = l.1 in
    let b = a.1 in
    let c = b.1 in
    let d = c.1 in
    record {
      id = a.0.1.0;
      period = b.0.1.0;
      deadline = c.0.1.0;
      blocks = lawful_numerals w.blocks _ d.0.1;
      points = lawful_numerals w.points _ d.1.0.1;
    }

-- a wanted form has its numbers in one way

numerals_same : (ns ms : List (List ℕ)) → numerals ns ≡ numerals ms → ns ≡ ms
numerals_same [] [] e = refl
numerals_same [] (m ∷ ms) e = cc
numerals_same (n ∷ ns) [] e = cc
numerals_same (n ∷ ns) (m ∷ ms) e = let rest = numerals_same ns ms (cc) in cc

pub sheet_same : (ds es : List ℕ) → sheet_form ds ≡ sheet_form es → ds ≡ es
sheet_same ds es e = cc

pub task_same : (v w : Written) → task_form v ≡ task_form w → v ≡ w
task_same v w e =
    let blocks = numerals_same v.blocks w.blocks (cc) in
    let points = numerals_same v.points w.points (cc) in
    let alike : (f : List ℕ → List ℕ → List ℕ → List (List ℕ) → List (List ℕ) → Written) → f v.id v.period v.deadline v.blocks v.points ≡ f w.id w.period w.deadline w.blocks w.points = λ f. cc in
    alike (λ i p d bs ps. record { id = i; period = p; deadline = d; blocks = bs; points = ps })

same_line : (f g : Form) → Lawful f 4 → Lawful g 4 → line f ≡ line g → f ≡ g
same_line f g p q e = (line_same f g (lawful_spelt f 4 p) (lawful_spelt g 4 q) [] [] (append-nil (line f) ∙ e ∙ sym (append-nil (line g)))).0

-- the answers

module _ (f : Form) (bs : List ℕ) (lawful : Lawful f 4) (is : bs ≡ line f) where
  pub cores_some : (v : ℕ) → CoresOf bs (Some v) → (ds : List ℕ) × IsNumber ds × (v ≡ value ds) × (f ≡ sheet_form ds)
  cores_some v k = (k.0, k.1, k.2, same_line f (sheet_form k.0) lawful (sheet_lawful k.0 k.1) (sym is ∙ k.3))

  pub cores-none : CoresOf bs None → (ds : List ℕ) → f ≡ sheet_form ds → ⊥
  cores-none never ds e = never ds (lawful_sheet ds (subst (λ g. Lawful g 4) e lawful)) (is ∙ ap line e)

  pub task_some : (v : TaskLine) → TaskOf bs (Some v) → (w : Written) × IsTask w × HasTask w v × (f ≡ task_form w)
  task_some v k = (k.0, k.1, k.2, same_line f (task_form k.0) lawful (task_lawful k.0 k.1) (sym is ∙ k.3))

  pub task-none : TaskOf bs None → (w : Written) → f ≡ task_form w → ⊥
  task-none never w e = never w (lawful_task w (subst (λ g. Lawful g 4) e lawful)) (is ∙ ap line e)

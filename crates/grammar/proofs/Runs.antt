-- The run over a lawful line ends. Assumes nothing.
use Rattle.std.proofs.Common.{◌≡◌, ℕ, zero, suc, ◌+◌, ◌-◌, ◌<◌, ◌≤◌, ltb, ◌⊎◌, List, [], ◌∷◌, ◌++◌, length, Some, None, Option, sym, refl, ap, ◌∙◌, inl, inr, append_assoc, arith}
use Rattle.std.proofs.lemmas.Bool.Decides.{nat_tests}
use Rattle.std.proofs.lemmas.Bool.{cond-true, lt-ltb}
use Rattle.std.specs.List.{All}
use Rattle.std.proofs.lemmas.List.Elements.{All-head, All-tail}
use Rattle.grammar.specs.Kinds.{kind}
use Rattle.grammar.specs.Forms.{Form, form, Items, none, more, number, nested, IsLetter, IsDigit, IsNumber, render, render_item, renders, line, Lawful, LawfulItem, Lawfuls}
use Rattle.grammar.specs.Forms as forms
use Rattle.grammar.specs.States.{goes, after, from, run}
use Rattle.grammar.specs.declared.kind.Kind.TheVariants as kinds
use Rattle.grammar.specs.States.{State, Start, Word, Item, Zero, Digits, Closed, Done}
use Rattle.grammar.proofs.Steps.{letter_kind, figure_kind, none_some}

pub from-append : (o : Option State) (p q : List ℕ) → from o (p ++ q) ≡ from (from o p) q
from-append None p q = refl
from-append (Some s) [] q = refl
from-append (Some s) (c ∷ p) q = from-append (goes s (kind c)) p q

pub run_step : (s t : State) (c : ℕ) (cs : List ℕ) → goes s (kind c) ≡ Some t → run s (c ∷ cs) ≡ run t cs
run_step s t c cs e = ap (λ o. from o cs) e

-- the run over a front of what a run goes over goes on too
pub front_runs : (s t : State) (p q : List ℕ) → run s (p ++ q) ≡ Some t → (u : State) × (run s p ≡ Some u) × (run u q ≡ Some t)
front_runs s t p q e = cases (run s p) refl
  where
    cases : (o : Option State) → run s p ≡ o → (u : State) × (run s p ≡ Some u) × (run u q ≡ Some t)
    cases None h = absurd (none_some (sym (ap (λ o. from o q) h) ∙ sym (from-append (Some s) p q) ∙ e))
    cases (Some u) h = (u, h, sym (ap (λ o. from o q) h) ∙ sym (from-append (Some s) p q) ∙ e)

-- as after a word or an item, with some forms open
abbrev pub Settled : State → ℕ → Type 0
Settled s d = (goes s kinds.Space ≡ Some (Item d)) × (goes s kinds.Close ≡ Some (Closed (d - 1)))

pub after_settled : (d : ℕ) → 0 < d → (after d kinds.Space ≡ Some (Item d)) × (after d kinds.Close ≡ Some (Closed (d - 1)))
after_settled d h = (grind (arith, nat_tests), grind (arith, nat_tests))

pub word_settled : (d n : ℕ) → 0 < d → 0 < n → Settled (Word d n) d
word_settled d n h k = (grind (arith, nat_tests), grind (arith, nat_tests))

pub run_word : (w : List ℕ) (d m : ℕ) (t : List ℕ) → All IsLetter w → m + length w ≤ 8 → run (Word d m) (w ++ t) ≡ run (Word d (m + length w)) t
run_word [] d m t a h = ap (λ n. run (Word d n) t) (let z : m ≡ m + 0 = omega arith in z)
run_word (c ∷ w) d m t a h =
    let one : goes (Word d m) (kind c) ≡ Some (Word d (m + 1)) = ap (goes (Word d m)) (letter_kind c (All-head IsLetter c w a)) ∙ cond-true (ltb m 8) (Some (Word d (m + 1))) None (lt-ltb m 8 (omega arith)) in
    let long : m + 1 + length w ≡ m + length (c ∷ w) = omega arith in
    run_step (Word d m) (Word d (m + 1)) c (w ++ t) one ∙ run_word w d (m + 1) t (All-tail IsLetter c w a) (omega arith) ∙ ap (λ n. run (Word d n) t) long

count-step : (d m c : ℕ) → IsDigit c → m < 7 → goes (Digits d m) (kind c) ≡ Some (Digits d (m + 1))
count-step d m c f h = let k = figure_kind c f in grind (arith, nat_tests)

pub run_digits : (cs : List ℕ) (d m : ℕ) (t : List ℕ) → All IsDigit cs → m + length cs ≤ 7 → run (Digits d m) (cs ++ t) ≡ run (Digits d (m + length cs)) t
run_digits [] d m t a h = ap (λ n. run (Digits d n) t) (let z : m ≡ m + 0 = omega arith in z)
run_digits (c ∷ cs) d m t a h =
    let long : m + 1 + length cs ≡ m + length (c ∷ cs) = omega arith in
    run_step (Digits d m) (Digits d (m + 1)) c (cs ++ t) (count-step d m c (All-head IsDigit c cs a) (omega arith)) ∙ run_digits cs d (m + 1) t (All-tail IsDigit c cs a) (omega arith) ∙ ap (λ n. run (Digits d n) t) long

pub record RunsItem (d : ℕ) (bs t : List ℕ) : Type 0 where
  pub state : State
  pub settled : Settled state d
  pub runs : run (Item d) (bs ++ t) ≡ run state t

run-number : (ds : List ℕ) (d : ℕ) (t : List ℕ) → 0 < d → IsNumber ds → RunsItem d ds t
run-number [] d t h n = absurd n
run-number (c ∷ cs) d t h n = cases (figure_kind c n.0)
  where
    tail_none : c ≡ 48 → run (Zero d) (cs ++ t) ≡ run (Zero d) t
    tail_none e = ap (λ l. run (Zero d) (l ++ t)) (n.3 e)

    cases : (kind c ≡ kinds.Zero) ⊎ (kind c ≡ kinds.Digit) → RunsItem d (c ∷ cs) t
    cases (inl e) =
        record {
          state = Zero d;
          settled = after_settled d h;
          runs = run_step (Item d) (Zero d) c (cs ++ t) (ap (goes (Item d)) e) ∙ tail_none (grind (arith, nat_tests));
        }
    cases (inr e) =
        record {
          state = Digits d (1 + length cs);
          settled = after_settled d h;
          runs = run_step (Item d) (Digits d 1) c (cs ++ t) (ap (goes (Item d)) e) ∙ run_digits cs d 1 t n.1 (omega (arith, n.2));
        }

pub write_form : (w : List ℕ) (is : Items) (t : List ℕ) → render (form w is) ++ t ≡ 40 ∷ (w ++ (renders is ++ 41 ∷ t))
write_form w is t = ap (λ l. 40 ∷ l) (append_assoc w (renders is ++ 41 ∷ []) t ∙ ap (λ l. w ++ l) (append_assoc (renders is) (41 ∷ []) t))

pub write_more : (i : forms.Item) (is : Items) (t : List ℕ) → renders (more i is) ++ t ≡ 32 ∷ (render_item i ++ (renders is ++ t))
write_more i is t = ap (λ l. 32 ∷ l) (append_assoc (render_item i) (renders is) t)

mutual
  run-form : (f : Form) (n d : ℕ) (s : State) (t : List ℕ) → Lawful f n → d + n ≡ 4 → goes s kinds.Open ≡ Some (Word (d + 1) 0) → run s (render f ++ t) ≡ run (Closed d) t
  run-form (form w is) zero d s t l h o = absurd l
  run-form (form w is) (suc n) d s t l h o =
      let back : d + 1 - 1 ≡ d = omega arith in
      ap (run s) (write_form w is t) ∙ run_step s (Word (d + 1) 0) 40 (w ++ (renders is ++ 41 ∷ t)) o
      ∙ run_word w (d + 1) 0 (renders is ++ 41 ∷ t) l.0.2 (omega (arith, l.0.1))
      ∙ run_items is n (d + 1) (Word (d + 1) (0 + length w)) t l.1 (omega arith) (omega arith) (word_settled (d + 1) (0 + length w) (omega arith) (omega (arith, l.0.0)))
      ∙ ap (λ k. run (Closed k) t) back

  run_item : (i : forms.Item) (n d : ℕ) (t : List ℕ) → LawfulItem i n → 0 < d → d + n ≡ 4 → RunsItem d (render_item i) t
  run_item (number ds) n d t l p h = run-number ds d t p l
  run_item (nested f) zero d t l p h = absurd (no_form f l)
    where
      no_form : (f : Form) → Lawful f 0 → ⊥
      no_form (form w is) l = l
  run_item (nested f) (suc n) d t l p h =
      record {
        state = Closed d;
        settled = after_settled d p;
        runs = run-form f (suc n) d (Item d) t l h (cond-true (ltb d 4) (Some (Word (d + 1) 0)) None (lt-ltb d 4 (omega arith)));
      }

  run_items : (is : Items) (n d : ℕ) (s : State) (t : List ℕ) → Lawfuls is n → 0 < d → d + n ≡ 4 → Settled s d → run s (renders is ++ 41 ∷ t) ≡ run (Closed (d - 1)) t
  run_items none n d s t l p h e = run_step s (Closed (d - 1)) 41 t e.1
  run_items (more i is) n d s t l p h e =
      let one = run_item i n d (renders is ++ 41 ∷ t) l.0 p h in
      ap (run s) (write_more i is (41 ∷ t)) ∙ run_step s (Item d) 32 (render_item i ++ (renders is ++ 41 ∷ t)) e.0 ∙ one.runs
      ∙ run_items is n d one.state t l.1 p h one.settled

pub run-line : (f : Form) → Lawful f 4 → run Start (line f) ≡ Some Done
run-line f l = run-form f 4 0 Start (10 ∷ []) l refl refl

-- A form is written in one way, and what stands after it is told by the bytes. Assumes nothing.
use Rattle.std.proofs.Common.{◌≡◌, ℕ, zero, suc, List, [], ◌∷◌, ◌++◌, sym, refl, ap, ◌∙◌, subst, append_assoc, arith}
use Rattle.std.specs.List.{All}
use Rattle.std.proofs.lemmas.List.Elements.{All-cons, All-head, All-tail}
use Rattle.grammar.specs.Forms.{Run, Ends, Form, Item, Items, form, number, nested, none, more, render, render_item, renders, line, IsLetter, IsDigit, IsNumber, Lawful, LawfulItem, Lawfuls}
use Rattle.grammar.proofs.Runs.{write_form, write_more}

pub rest_same : {x y : ℕ} {xs ys : List ℕ} → x ∷ xs ≡ y ∷ ys → xs ≡ ys
rest_same e = cc

pub head_same : {x y : ℕ} {xs ys : List ℕ} → x ∷ xs ≡ y ∷ ys → x ≡ y
head_same e = cc

pub run_clash : (P : ℕ → Type 0) (w t s : List ℕ) → Run P w → Ends P s → w ++ t ≡ s → ⊥
run_clash P [] t s r h e = omega (arith, r.0)
run_clash P (x ∷ w) t s r h e = subst (Ends P) (sym e) h (All-head P x w r.1)

pub runs_same : (P : ℕ → Type 0) (w v x y : List ℕ) → All P w → All P v → Ends P x → Ends P y → w ++ x ≡ v ++ y → (w ≡ v) × (x ≡ y)
runs_same P [] [] x y p q h g e = (refl, e)
runs_same P [] (b ∷ v) x y p q h g e = absurd (subst (Ends P) e h (All-head P b v q))
runs_same P (a ∷ w) [] x y p q h g e = absurd (subst (Ends P) (sym e) g (All-head P a w p))
runs_same P (a ∷ w) (b ∷ v) x y p q h g e =
    let r = runs_same P w v x y (All-tail P a w p) (All-tail P b v q) h g (rest_same e) in
    (ap (λ c. c ∷ w) (head_same e) ∙ ap (λ l. b ∷ l) r.0, r.1)

-- words and numbers of any length, at any depth
abbrev mutual
  pub Spelt : Form → Type 0
  Spelt (form w is) = Run IsLetter w × Spelts is

  pub SpeltItem : Item → Type 0
  SpeltItem (number d) = Run IsDigit d
  SpeltItem (nested f) = Spelt f

  pub Spelts : Items → Type 0
  Spelts none = Unit {0}
  Spelts (more i is) = SpeltItem i × Spelts is

pub number-run : (d : List ℕ) → IsNumber d → Run IsDigit d
number-run [] n = absurd n
number-run (c ∷ cs) n = (omega arith, All-cons IsDigit c cs n.0 n.1)

mutual
  pub lawful_spelt : (f : Form) (n : ℕ) → Lawful f n → Spelt f
  lawful_spelt (form w is) zero l = absurd l
  lawful_spelt (form w is) (suc n) l = ((l.0.0, l.0.2), lawfuls_spelt is n l.1)

  lawful_item_spelt : (i : Item) (n : ℕ) → LawfulItem i n → SpeltItem i
  lawful_item_spelt (number d) n l = number-run d l
  lawful_item_spelt (nested f) n l = lawful_spelt f n l

  lawfuls_spelt : (is : Items) (n : ℕ) → Lawfuls is n → Spelts is
  lawfuls_spelt none n l = tt
  lawfuls_spelt (more i is) n l = (lawful_item_spelt i n l.0, lawfuls_spelt is n l.1)

items_letters : (is : Items) (t : List ℕ) → Ends IsLetter (renders is ++ 41 ∷ t)
items_letters none t = λ h. omega (arith, h.0)
items_letters (more i is) t = λ h. omega (arith, h.0)

items_figures : (is : Items) (t : List ℕ) → Ends IsDigit (renders is ++ 41 ∷ t)
items_figures none t = λ h. omega (arith, h.0)
items_figures (more i is) t = λ h. omega (arith, h.0)

form-number : (f : Form) (d t s : List ℕ) → Run IsDigit d → render f ++ t ≡ d ++ s → ⊥
form-number (form w is) d t s r e = run_clash IsDigit d s (render (form w is) ++ t) r (λ h. omega (arith, h.0)) (sym e)

mutual
  pub form_same : (f g : Form) → Spelt f → Spelt g → (t s : List ℕ) → render f ++ t ≡ render g ++ s → (f ≡ g) × (t ≡ s)
  form_same (form w is) (form v js) p q t s e =
      let a = runs_same IsLetter w v _ _ p.0.1 q.0.1 (items_letters is t) (items_letters js s) (rest_same (sym (write_form w is t) ∙ e ∙ write_form v js s)) in
      let b = items_same is js p.1 q.1 t s a.1 in
      (ap (λ u. form u is) a.0 ∙ ap (form v) b.0, b.1)

  item_same : (i j : Item) → SpeltItem i → SpeltItem j → (t s : List ℕ) → Ends IsDigit t → Ends IsDigit s → render_item i ++ t ≡ render_item j ++ s → (i ≡ j) × (t ≡ s)
  item_same (number d) (number c) p q t s h g e = let a = runs_same IsDigit d c t s p.1 q.1 h g e in (ap number a.0, a.1)
  item_same (number d) (nested f) p q t s h g e = absurd (form-number f d s t p (sym e))
  item_same (nested f) (number d) p q t s h g e = absurd (form-number f d t s q e)
  item_same (nested f) (nested k) p q t s h g e = let a = form_same f k p q t s e in (ap nested a.0, a.1)

  items_same : (is js : Items) → Spelts is → Spelts js → (t s : List ℕ) → renders is ++ 41 ∷ t ≡ renders js ++ 41 ∷ s → (is ≡ js) × (t ≡ s)
  items_same none none p q t s e = (refl, rest_same e)
  items_same none (more j js) p q t s e = let z : ◌≡◌ {A = ℕ} 41 32 = head_same e in absurd (omega arith)
  items_same (more i is) none p q t s e = let z : ◌≡◌ {A = ℕ} 32 41 = head_same e in absurd (omega arith)
  items_same (more i is) (more j js) p q t s e =
      let a = item_same i j p.0 q.0 _ _ (items_figures is t) (items_figures js s) (rest_same (sym (write_more i is (41 ∷ t)) ∙ e ∙ write_more j js (41 ∷ s))) in
      let b = items_same is js p.1 q.1 t s a.1 in
      (ap (λ k. more k is) a.0 ∙ ap (more j) b.0, b.1)

pub line_same : (f g : Form) → Spelt f → Spelt g → (t s : List ℕ) → line f ++ t ≡ line g ++ s → (f ≡ g) × (t ≡ s)
line_same f g p q t s e =
    let a = form_same f g p q (10 ∷ t) (10 ∷ s) (sym (append_assoc (render f) (10 ∷ []) t) ∙ e ∙ append_assoc (render g) (10 ∷ []) s) in
    (a.0, rest_same a.1)

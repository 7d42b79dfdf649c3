-- What the bytes that a run went over are: the front of a line, with its open forms. Assumes nothing.
use Rattle.std.proofs.Common.{◌≡◌, ℕ, zero, suc, ◌+◌, ◌-◌, ◌<◌, ◌≤◌, Bool, true, false, ltb, ◌⊎◌, List, [], ◌∷◌, ◌++◌, length, Some, None, Option, sym, refl, ap, ◌∙◌, subst, inl, inr, append_assoc, append-nil, arith, length-append}
use Rattle.std.proofs.lemmas.Bool.Decides.{nat_tests}
use Rattle.std.specs.List.{All}
use Rattle.std.proofs.lemmas.List.Elements.{All-nil, All-cons, All-push}
use Rattle.grammar.specs.Kinds.{kind}
use Rattle.grammar.specs.Forms.{Form, form, Items, none, more, number, nested, IsLetter, IsDigit, IsWord, IsNumber, render, render_item, renders, line, Lawful, LawfulItem, Lawfuls}
use Rattle.grammar.specs.Forms as forms
use Rattle.grammar.specs.Faults.{Begins, Whole}
use Rattle.grammar.specs.States.{goes, after, from, run}
use Rattle.grammar.specs.declared.kind.Kind.{Kind}
use Rattle.grammar.specs.declared.kind.Kind.TheVariants as kinds
use Rattle.grammar.specs.States.{State, Start, Word, Item, Zero, Digits, Closed, Done}
use Rattle.grammar.proofs.Steps.{is_open, is_close, is_space, is_feed, is_letter, is_zero, is_digit, some_is, none_some, taken, not_zero, only_zero}

-- one item more

abbrev snoc : Items → forms.Item → Items
snoc none i = more i none
snoc (more j js) i = more j (snoc js i)

renders_snoc : (is : Items) (i : forms.Item) → renders (snoc is i) ≡ renders is ++ 32 ∷ render_item i
renders_snoc none i = ap (λ l. 32 ∷ l) (append-nil (render_item i))
renders_snoc (more j js) i = ap (λ l. 32 ∷ (render_item j ++ l)) (renders_snoc js i) ∙ ap (λ l. 32 ∷ l) (sym (append_assoc (render_item j) (renders js) (32 ∷ render_item i)))

lawful_snoc : (is : Items) (i : forms.Item) (n : ℕ) → Lawfuls is n → LawfulItem i n → Lawfuls (snoc is i) n
lawful_snoc none i n p q = (q, tt)
lawful_snoc (more j js) i n p q = (p.0, lawful_snoc js i n p.1 q)

-- the open forms, each with its word and its items so far, and a space

pub data Open : Type 0 where
  top : Open
  inside : Open → List ℕ → Items → Open

abbrev pub written : Open → List ℕ
written top = []
written (inside k w is) = written k ++ 40 ∷ (w ++ (renders is ++ 32 ∷ []))

abbrev pub closing : Open → List ℕ
closing top = 10 ∷ []
closing (inside k w is) = 41 ∷ closing k

abbrev pub depth : Open → ℕ
depth top = 0
depth (inside k w is) = depth k + 1

abbrev pub fill : Open → Form → Form
fill top f = f
fill (inside k w is) f = fill k (form w (snoc is (nested f)))

-- forms may nest n deep in the innermost
abbrev pub Room : Open → ℕ → Type 0
Room top n = n ≡ 4
Room (inside k w is) n = Room k (suc n) × IsWord w × Lawfuls is n

room_deep : (k : Open) (n : ℕ) → Room k n → n + depth k ≡ 4
room_deep top n r = omega arith
room_deep (inside k w is) n r = let h = room_deep k (suc n) r.0 in omega arith

fill_lawful : (k : Open) (n : ℕ) (f : Form) → Room k n → Lawful f n → Lawful (fill k f) 4
fill_lawful top n f r l = subst (Lawful f) r l
fill_lawful (inside k w is) n f r l = fill_lawful k (suc n) (form w (snoc is (nested f))) r.0 (r.1, lawful_snoc is (nested f) n r.2 l)

regroup_fill : (u w r x c : List ℕ) → u ++ ((40 ∷ (w ++ ((r ++ 32 ∷ x) ++ 41 ∷ []))) ++ c) ≡ (u ++ 40 ∷ (w ++ (r ++ 32 ∷ []))) ++ (x ++ 41 ∷ c)
regroup_fill u w r x c = simp append_assoc

fill_line : (k : Open) (f : Form) → line (fill k f) ≡ written k ++ (render f ++ closing k)
fill_line top f = refl
fill_line (inside k w is) f =
    fill_line k (form w (snoc is (nested f))) ∙ ap (λ l. written k ++ ((40 ∷ (w ++ (l ++ 41 ∷ []))) ++ closing k)) (renders_snoc is (nested f)) ∙ regroup_fill (written k) w (renders is) (render f) (closing k)

-- a form is open, with a word and some items
pub record Within (d : ℕ) (p : List ℕ) : Type 0 where
  pub outer : Open
  pub allow : ℕ
  pub word : List ℕ
  pub items : Items
  pub room : Room outer (suc allow)
  pub deep : depth outer + 1 ≡ d
  pub letters : IsWord word
  pub lawful : Lawfuls items allow
  pub is : p ≡ written outer ++ 40 ∷ (word ++ renders items)

-- a word is being read
pub record Spelling (d n : ℕ) (p : List ℕ) : Type 0 where
  pub outer : Open
  pub allow : ℕ
  pub word : List ℕ
  pub room : Room outer (suc allow)
  pub deep : depth outer + 1 ≡ d
  pub letters : All IsLetter word
  pub long : length word ≡ n
  pub fits : n ≤ 8
  pub is : p ≡ written outer ++ 40 ∷ word

-- a number is being read
pub record Counting (d n : ℕ) (p : List ℕ) : Type 0 where
  pub before : List ℕ
  pub within : Within d before
  pub first : ℕ
  pub others : List ℕ
  pub low : 49 ≤ first
  pub high : first ≤ 57
  pub figures : All IsDigit others
  pub long : length others + 1 ≡ n
  pub fits : n ≤ 7
  pub is : p ≡ before ++ 32 ∷ (first ∷ others)

pub record Finished (p : List ℕ) : Type 0 where
  pub tree : Form
  pub lawful : Lawful tree 4
  pub is : p ≡ render tree

pub record Behind (d : ℕ) (p tail : List ℕ) : Type 0 where
  pub before : List ℕ
  pub within : Within d before
  pub is : p ≡ before ++ tail

abbrev pub Rested : ℕ → List ℕ → Type 0
Rested d p = ((d ≡ 0) × Finished p) ⊎ Within d p

abbrev pub Reach : State → List ℕ → Type 0
Reach Start p = p ≡ []
Reach (Word d n) p = Spelling d n p
Reach (Item d) p = Behind d p (32 ∷ [])
Reach (Zero d) p = Behind d p (32 ∷ 48 ∷ [])
Reach (Digits d n) p = Counting d n p
Reach (Closed d) p = Rested d p
Reach Done p = Whole p

-- a number more

regroup_more : (u w r x : List ℕ) → (u ++ 40 ∷ (w ++ r)) ++ 32 ∷ x ≡ u ++ 40 ∷ (w ++ (r ++ 32 ∷ x))
regroup_more u w r x = simp append_assoc

with_item : (d : ℕ) (p before : List ℕ) (i : forms.Item) (g : Within d before) → LawfulItem i g.allow → p ≡ before ++ 32 ∷ render_item i → Within d p
with_item d p before i g l e =
    record {
      outer = g.outer;
      allow = g.allow;
      word = g.word;
      items = snoc g.items i;
      room = g.room;
      deep = g.deep;
      letters = g.letters;
      lawful = lawful_snoc g.items i g.allow g.lawful l;
      is = e ∙ ap (λ l. l ++ 32 ∷ render_item i) g.is ∙ regroup_more (written g.outer) g.word (renders g.items) (render_item i) ∙ ap (λ l. written g.outer ++ 40 ∷ (g.word ++ l)) (sym (renders_snoc g.items i));
    }

is_zero_number : IsNumber (48 ∷ [])
is_zero_number = ((omega arith, omega arith), All-nil IsDigit, omega arith, λ e. refl)

counted-number : {d n : ℕ} {p : List ℕ} (g : Counting d n p) → IsNumber (g.first ∷ g.others)
counted-number g = ((omega (arith, g.low), g.high), g.figures, omega (arith, g.long, g.fits), λ e. absurd (omega (arith, g.low, e)))

within_word : (d n : ℕ) (p : List ℕ) → 0 < n → Spelling d n p → Within d p
within_word d n p h g =
    record {
      outer = g.outer;
      allow = g.allow;
      word = g.word;
      items = none;
      room = g.room;
      deep = g.deep;
      letters = (omega (arith, g.long), omega (arith, g.long, g.fits), g.letters);
      lawful = tt;
      is = g.is ∙ ap (λ l. written g.outer ++ 40 ∷ l) (sym (append-nil g.word));
    }

within_nought : (d : ℕ) (p : List ℕ) → Behind d p (32 ∷ 48 ∷ []) → Within d p
within_nought d p g = with_item d p g.before (number (48 ∷ [])) g.within is_zero_number g.is

within_digits : (d n : ℕ) (p : List ℕ) → Counting d n p → Within d p
within_digits d n p g = with_item d p g.before (number (g.first ∷ g.others)) g.within (counted-number g) g.is

-- what begins a lawful line

regroup_close : (u w r c : List ℕ) → u ++ ((40 ∷ (w ++ (r ++ 41 ∷ []))) ++ c) ≡ (u ++ 40 ∷ (w ++ r)) ++ 41 ∷ c
regroup_close u w r c = simp append_assoc

within_begins : (d : ℕ) (p : List ℕ) → Within d p → Begins p
within_begins d p g =
    record {
      tree = fill g.outer (form g.word g.items);
      lawful = fill_lawful g.outer (suc g.allow) (form g.word g.items) g.room (g.letters, g.lawful);
      left = 41 ∷ closing g.outer;
      is = fill_line g.outer (form g.word g.items) ∙ regroup_close (written g.outer) g.word (renders g.items) (closing g.outer) ∙ ap (λ l. l ++ 41 ∷ closing g.outer) (sym g.is);
    }

-- a front of a front
shorter : (p q : List ℕ) → Begins (p ++ q) → Begins p
shorter p q b = record { tree = b.tree; lawful = b.lawful; left = q ++ b.left; is = b.is ∙ append_assoc p q b.left }

letter_a : All IsLetter (97 ∷ [])
letter_a = All-cons IsLetter 97 [] (omega arith, omega arith) (All-nil IsLetter)

spelling_more : (d n c : ℕ) (p : List ℕ) → n < 8 → IsLetter c → Spelling d n p → Spelling d (n + 1) (p ++ c ∷ [])
spelling_more d n c p h k g =
    record {
      outer = g.outer;
      allow = g.allow;
      word = g.word ++ c ∷ [];
      room = g.room;
      deep = g.deep;
      letters = All-push IsLetter g.word c g.letters k;
      long = omega (arith, length-append g.word (c ∷ []), g.long);
      fits = omega arith;
      is = ap (λ l. l ++ c ∷ []) g.is ∙ append_assoc (written g.outer) (40 ∷ g.word) (c ∷ []);
    }

counting_more : (d n c : ℕ) (p : List ℕ) → n < 7 → IsDigit c → Counting d n p → Counting d (n + 1) (p ++ c ∷ [])
counting_more d n c p h k g =
    record {
      before = g.before;
      within = g.within;
      first = g.first;
      others = g.others ++ c ∷ [];
      low = g.low;
      high = g.high;
      figures = All-push IsDigit g.others c g.figures k;
      long = omega (arith, length-append g.others (c ∷ []), g.long);
      fits = omega arith;
      is = ap (λ l. l ++ c ∷ []) g.is ∙ append_assoc g.before (32 ∷ (g.first ∷ g.others)) (c ∷ []);
    }

pub reach_begins : (s : State) (p : List ℕ) → Reach s p → Begins p
reach_begins Start p r = record { tree = form (97 ∷ []) none; lawful = ((omega arith, omega arith, letter_a), tt); left = line (form (97 ∷ []) none); is = ap (λ l. l ++ line (form (97 ∷ []) none)) (sym r) }
reach_begins (Word d n) p r = cases (ltb 0 n) refl
  where
    cases : (t : Bool) → ltb 0 n ≡ t → Begins p
    cases true e = within_begins d p (within_word d n p (grind (arith, nat_tests)) r)
    cases false e = shorter p (97 ∷ []) (within_begins d (p ++ 97 ∷ []) (within_word d (n + 1) (p ++ 97 ∷ []) (omega arith) (spelling_more d n 97 p (grind (arith, nat_tests)) (omega arith, omega arith) r)))
reach_begins (Item d) p r =
    shorter p (48 ∷ []) (within_begins d (p ++ 48 ∷ []) (within_nought d (p ++ 48 ∷ []) (record { before = r.before; within = r.within; is = ap (λ l. l ++ 48 ∷ []) r.is ∙ append_assoc r.before (32 ∷ []) (48 ∷ []) })))
reach_begins (Zero d) p r = within_begins d p (within_nought d p r)
reach_begins (Digits d n) p r = within_begins d p (within_digits d n p r)
reach_begins (Closed d) p (inl r) = record { tree = r.1.tree; lawful = r.1.lawful; left = 10 ∷ []; is = ap (λ l. l ++ 10 ∷ []) (sym r.1.is) }
reach_begins (Closed d) p (inr r) = within_begins d p r
reach_begins Done p r = record { tree = r.tree; lawful = r.lawful; left = []; is = r.is ∙ sym (append-nil p) }

-- one step

close_within : (d : ℕ) (p : List ℕ) → Within d p → Rested (d - 1) (p ++ 41 ∷ [])
close_within d p g = closes g.outer g.allow g.room g.deep g.is g.lawful
  where
    tree : Form
    tree = form g.word g.items

    regroup_top : (w r : List ℕ) → (40 ∷ (w ++ r)) ++ 41 ∷ [] ≡ 40 ∷ (w ++ (r ++ 41 ∷ []))
    regroup_top w r = simp append_assoc

    regroup_in : (u v q w r : List ℕ) → ((u ++ 40 ∷ (v ++ (q ++ 32 ∷ []))) ++ 40 ∷ (w ++ r)) ++ 41 ∷ [] ≡ (u ++ 40 ∷ (v ++ q)) ++ 32 ∷ (40 ∷ (w ++ (r ++ 41 ∷ [])))
    regroup_in u v q w r = simp append_assoc

    closes : (k : Open) (n : ℕ) → Room k (suc n) → depth k + 1 ≡ d → p ≡ written k ++ 40 ∷ (g.word ++ renders g.items) → Lawfuls g.items n → Rested (d - 1) (p ++ 41 ∷ [])
    closes top n room deep is l =
        let three : n ≡ 3 = omega arith in
        inl (omega arith, record { tree = form g.word g.items; lawful = (g.letters, subst (Lawfuls g.items) three l); is = ap (λ l. l ++ 41 ∷ []) is ∙ regroup_top g.word (renders g.items) })
    closes (inside k v js) n room deep is l =
        inr
        (with_item (d - 1) (p ++ 41 ∷ []) (written k ++ 40 ∷ (v ++ renders js)) (nested (form g.word g.items))
        (record { outer = k; allow = suc n; word = v; items = js; room = room.0; deep = omega arith; letters = room.1; lawful = room.2; is = refl })
        (g.letters, l)
        (ap (λ l. l ++ 41 ∷ []) is ∙ regroup_in (written k) v (renders js) g.word (renders g.items)))

rested_step : (d : ℕ) (p : List ℕ) (c : ℕ) (s : State) (k : Kind) → Rested d p → kind c ≡ k → after d k ≡ Some s → Reach s (p ++ c ∷ [])
rested_step d p c s kinds.Close r h e = cases r (not_zero d (Some (Closed (d - 1))) e)
  where
    cases : Rested d p → (0 < d) × (Some (Closed (d - 1)) ≡ Some s) → Reach s (p ++ c ∷ [])
    cases (inl f) q = absurd (omega (arith, f.0, q.0))
    cases (inr g) q = subst (λ t. Reach t (p ++ c ∷ [])) (some_is q.1) (subst (λ b. Rested (d - 1) (p ++ b ∷ [])) (sym (is_close c h)) (close_within d p g))
rested_step d p c s kinds.Space r h e = cases r (not_zero d (Some (Item d)) e)
  where
    cases : Rested d p → (0 < d) × (Some (Item d) ≡ Some s) → Reach s (p ++ c ∷ [])
    cases (inl f) q = absurd (omega (arith, f.0, q.0))
    cases (inr g) q = subst (λ t. Reach t (p ++ c ∷ [])) (some_is q.1) (record { before = p; within = g; is = ap (λ b. p ++ b ∷ []) (is_space c h) })
rested_step d p c s kinds.LineFeed r h e = cases r (only_zero d e)
  where
    cases : Rested d p → (d ≡ 0) × (Done ≡ s) → Reach s (p ++ c ∷ [])
    cases (inr g) q = absurd (omega (arith, g.deep, q.0))
    cases (inl f) q = subst (λ t. Reach t (p ++ c ∷ [])) q.1 (record { tree = f.1.tree; lawful = f.1.lawful; is = ap (λ l. l ++ 10 ∷ []) (sym f.1.is) ∙ ap (λ b. p ++ b ∷ []) (sym (is_feed c h)) })
rested_step d p c s k r h e = cc

starts-step : (p : List ℕ) (c : ℕ) (s : State) (k : Kind) → p ≡ [] → kind c ≡ k → goes Start k ≡ Some s → Reach s (p ++ c ∷ [])
starts-step p c s kinds.Open r h e =
    subst (λ t. Reach t (p ++ c ∷ [])) (some_is e)
    (record { outer = top; allow = 3; word = []; room = refl; deep = refl; letters = All-nil IsLetter; long = refl; fits = omega arith; is = ap (λ l. l ++ c ∷ []) r ∙ ap (λ b. b ∷ []) (is_open c h) })
starts-step p c s k r h e = cc

word_step : (d n : ℕ) (p : List ℕ) (c : ℕ) (s : State) (k : Kind) → Spelling d n p → kind c ≡ k → goes (Word d n) k ≡ Some s → Reach s (p ++ c ∷ [])
word_step d n p c s kinds.Close r h e = let q = not_zero n (after d kinds.Close) e in rested_step d p c s kinds.Close (inr (within_word d n p q.0 r)) h q.1
word_step d n p c s kinds.Space r h e = let q = not_zero n (after d kinds.Space) e in rested_step d p c s kinds.Space (inr (within_word d n p q.0 r)) h q.1
word_step d n p c s kinds.LineFeed r h e = let q = not_zero n (after d kinds.LineFeed) e in rested_step d p c s kinds.LineFeed (inr (within_word d n p q.0 r)) h q.1
word_step d n p c s kinds.Letter r h e = let q = taken n 8 e in subst (λ t. Reach t (p ++ c ∷ [])) q.1 (spelling_more d n c p q.0 (is_letter c h) r)
word_step d n p c s k r h e = cc

deeper : (d : ℕ) (p : List ℕ) → d < 4 → Behind d p (32 ∷ []) → Spelling (d + 1) 0 (p ++ 40 ∷ [])
deeper d p h g = cases g.within.allow g.within.room g.within.lawful
  where
    regroup_open : (u w r : List ℕ) → ((u ++ 40 ∷ (w ++ r)) ++ 32 ∷ []) ++ 40 ∷ [] ≡ (u ++ 40 ∷ (w ++ (r ++ 32 ∷ []))) ++ 40 ∷ []
    regroup_open u w r = simp append_assoc

    cases : (n : ℕ) → Room g.within.outer (suc n) → Lawfuls g.within.items n → Spelling (d + 1) 0 (p ++ 40 ∷ [])
    cases zero room l = absurd (omega (arith, room_deep g.within.outer 1 room, g.within.deep))
    cases (suc n) room l =
        record {
          outer = inside g.within.outer g.within.word g.within.items;
          allow = n;
          word = [];
          room = (room, g.within.letters, l);
          deep = omega (arith, g.within.deep);
          letters = All-nil IsLetter;
          long = refl;
          fits = omega arith;
          is = ap (λ l. l ++ 40 ∷ []) (g.is ∙ ap (λ l. l ++ 32 ∷ []) g.within.is) ∙ regroup_open (written g.within.outer) g.within.word (renders g.within.items);
        }

item_step : (d : ℕ) (p : List ℕ) (c : ℕ) (s : State) (k : Kind) → Behind d p (32 ∷ []) → kind c ≡ k → goes (Item d) k ≡ Some s → Reach s (p ++ c ∷ [])
item_step d p c s kinds.Open r h e =
    let q = taken d 4 e in
    subst (λ t. Reach t (p ++ c ∷ [])) q.1 (subst (λ b. Spelling (d + 1) 0 (p ++ b ∷ [])) (sym (is_open c h)) (deeper d p q.0 r))
item_step d p c s kinds.Zero r h e =
    subst (λ t. Reach t (p ++ c ∷ [])) (some_is e)
    (record { before = r.before; within = r.within; is = ap (λ b. p ++ b ∷ []) (is_zero c h) ∙ ap (λ l. l ++ 48 ∷ []) r.is ∙ append_assoc r.before (32 ∷ []) (48 ∷ []) })
item_step d p c s kinds.Digit r h e =
    let k = is_digit c h in
    subst (λ t. Reach t (p ++ c ∷ [])) (some_is e)
    (record { before = r.before; within = r.within; first = c; others = []; low = k.0; high = k.1; figures = All-nil IsDigit; long = refl; fits = omega arith; is = ap (λ l. l ++ c ∷ []) r.is ∙ append_assoc r.before (32 ∷ []) (c ∷ []) })
item_step d p c s k r h e = cc

digits_step : (d n : ℕ) (p : List ℕ) (c : ℕ) (s : State) (k : Kind) → Counting d n p → kind c ≡ k → goes (Digits d n) k ≡ Some s → Reach s (p ++ c ∷ [])
digits_step d n p c s kinds.Zero r h e =
    let q = taken n 7 e in
    let k = is_zero c h in
    subst (λ t. Reach t (p ++ c ∷ [])) q.1 (counting_more d n c p q.0 (omega arith, omega arith) r)
digits_step d n p c s kinds.Digit r h e =
    let q = taken n 7 e in
    let k = is_digit c h in
    subst (λ t. Reach t (p ++ c ∷ [])) q.1 (counting_more d n c p q.0 (omega (arith, k.0), k.1) r)
digits_step d n p c s k r h e = rested_step d p c s k (inr (within_digits d n p r)) h e

step_reach : (s : State) (p : List ℕ) (c : ℕ) (t : State) → Reach s p → goes s (kind c) ≡ Some t → Reach t (p ++ c ∷ [])
step_reach Start p c t r e = starts-step p c t (kind c) r refl e
step_reach (Word d n) p c t r e = word_step d n p c t (kind c) r refl e
step_reach (Item d) p c t r e = item_step d p c t (kind c) r refl e
step_reach (Zero d) p c t r e = rested_step d p c t (kind c) (inr (within_nought d p r)) refl e
step_reach (Digits d n) p c t r e = digits_step d n p c t (kind c) r refl e
step_reach (Closed d) p c t r e = rested_step d p c t (kind c) r refl e
step_reach Done p c t r e = absurd (none_some e)

pub run_reach : (cs : List ℕ) (s : State) (p : List ℕ) (t : State) → Reach s p → run s cs ≡ Some t → Reach t (p ++ cs)
run_reach [] s p t r e = subst (λ u. Reach u (p ++ [])) (some_is e) (subst (Reach s) (sym (append-nil p)) r)
run_reach (c ∷ cs) s p t r e = cases (goes s (kind c)) refl e (λ u h q. run_reach cs u (p ++ c ∷ []) t h q)
  where
    cases : (o : Option State) → goes s (kind c) ≡ o → from o cs ≡ Some t → ((u : State) → Reach u (p ++ c ∷ []) → run u cs ≡ Some t → Reach t ((p ++ c ∷ []) ++ cs)) → Reach t (p ++ c ∷ cs)
    cases None h q on = absurd (none_some q)
    cases (Some u) h q on = subst (Reach t) (append_assoc p (c ∷ []) cs) (on u (step_reach s p c u r h) q)

pub reached : (p : List ℕ) (t : State) → run Start p ≡ Some t → Reach t p
reached p t e = run_reach p Start [] t refl e

pub not_deeper : (d : ℕ) (p : List ℕ) → Within d p → d ≤ 4
not_deeper d p g = omega (arith, room_deep g.outer (suc g.allow) g.room, g.deep)

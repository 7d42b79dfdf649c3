-- Words, numbers and items: the run over each, and what may stand next. Assumes nothing.
use Rattle.std.proofs.Common.{◌≡◌, ℕ, ◌+◌, ◌-◌, ◌<◌, ◌≤◌, Bool, true, false, cond, ◌&&◌, eqb, ltb, ◌⊎◌, List, [], ◌∷◌, ◌++◌, length, get_or, take, drop, Some, None, Ok, Err, Result, sym, refl, ap, ◌∙◌, subst, inl, inr, append_assoc, append-nil, arith, take-append-drop, Bor}
use Rattle.std.proofs.lemmas.Bool.{cond-false, cond-true, le-ltb, lt-ltb}
use Rattle.std.specs.List.{All}
use Rattle.std.proofs.lemmas.List.{drop_more, length-take-le}
use Rattle.std.proofs.lemmas.List.Elements.{All-take, All-get_or, All-head, All-tail}
use Rattle.std.proofs.lemmas.Bool.Decides.{nat_tests}
use Rattle.grammar.specs.Kinds.{kind}
use Rattle.grammar.specs.Forms.{IsLetter, IsDigit, Run, Ends}
use Rattle.grammar.specs.States.{State, Word, Item, Zero, Digits, Closed, Done, goes, after, run, fault_of}
use Rattle.grammar.specs.declared.kind.Kind.{Kind}
use Rattle.grammar.specs.declared.kind.Kind.TheVariants as kinds
use Rattle.grammar.proofs.Steps.{is_letter, is_zero, is_digit, letter_kind, figure_kind, some_is, none_some, zero_no, taken, left_out}
use Rattle.grammar.proofs.Runs.{run_step, run_word, run_digits, after_settled, word_settled}
use Rattle.tasks.specs.declared.refusal.Refusal.{Refusal}
use Rattle.tasks.specs.declared.refusal.Refusal.TheVariants.{ForbiddenByte, LongNumber, DeepForm}
use Rattle.reader.specs.Tokens.{rest, Maximal, Went, Past, NoToken}
use Rattle.reader.specs.Lines.{refusal_for}
use Rattle.reader.specs.Progress.{refused, word_refusal, number_refusal, Tells, Stuck, Forbids, OthersForbidden, Settled, ReadForm, ReadItem, ReadItems, FormSteps, ItemSteps}
use Rattle.reader.specs.declared.reader.Reader.{Reader}
use Rattle.reader.specs.declared.reader.TokenAt.{TokenAt}
use Rattle.reader.specs.declared.reader.Token.TheVariants as tokens
use Rattle.reader.proofs.Stalled.{went_then, went_token, run_then, stuck_later, stuck_here, stuck_strange, stuck_token, heads, no_space, no_close}

-- a run that is stuck at a byte after a front of the list
stuck_at : (s t : State) (xs after : List ℕ) (n start : ℕ) {y : Refusal} → n < length xs → run s (take n xs) ≡ Some t → (t ≡ Done → ⊥) → goes t (kind (get_or xs n 0)) ≡ None → y ≡ refusal_for (fault_of t (kind (get_or xs n 0)) (start + n)) → Stuck s (xs ++ after) start y
stuck_at s t xs after n start {y} h e u g is =
    let long : length (take n xs) ≡ n = length-take-le n xs (omega arith) in
    record {
      front = take n xs;
      left = get_or xs n 0 ∷ (drop (n + 1) xs ++ after);
      state = t;
      split = ap (λ l. l ++ after) (sym (take-append-drop n xs)) ∙ append_assoc (take n xs) (drop n xs) after ∙ ap (λ l. take n xs ++ (l ++ after)) (drop_more xs n 0 h);
      runs = e;
      undone = u;
      told = (g, is ∙ ap (λ m. refusal_for (fault_of t (kind (get_or xs n 0)) (start + m))) (sym long));
    }

-- past a word or an item only a space and a ')' are in place

after_others : (d : ℕ) (k : Kind) → 0 < d → (k ≡ kinds.Space → ⊥) → (k ≡ kinds.Close → ⊥) → after d k ≡ None
after_others d kinds.Close h s e = absurd (e refl)
after_others d kinds.Space h s e = absurd (s refl)
after_others d kinds.LineFeed h s e = cond-false (eqb d 0) (Some Done) None (zero_no d h)
after_others d k h s e = refl

pub closed_settled : (d : ℕ) (bs : List ℕ) → 0 < d → Settled (Closed d) d bs
closed_settled d bs h = record { space = (after_settled d h).0; close = (after_settled d h).1; others = others bs }
  where
    others : (bs : List ℕ) → OthersForbidden (Closed d) bs
    others [] = tt
    others (c ∷ q) = λ s e. (after_others d (kind c) h s e, λ at. refl)

nought_settled : (d : ℕ) (bs : List ℕ) → 0 < d → Settled (Zero d) d bs
nought_settled d bs h = record { space = (after_settled d h).0; close = (after_settled d h).1; others = others bs }
  where
    others : (bs : List ℕ) → OthersForbidden (Zero d) bs
    others [] = tt
    others (c ∷ q) = λ s e. (after_others d (kind c) h s e, λ at. refl)

digits_settled : (d n : ℕ) (bs : List ℕ) → 0 < d → Ends IsDigit bs → Settled (Digits d n) d bs
digits_settled d n bs h m = record { space = (after_settled d h).0; close = (after_settled d h).1; others = others bs m }
  where
    cases : (k : Kind) → (k ≡ kinds.Zero → ⊥) → (k ≡ kinds.Digit → ⊥) → (k ≡ kinds.Space → ⊥) → (k ≡ kinds.Close → ⊥) → Forbids (Digits d n) k
    cases kinds.Zero x y s e = absurd (x refl)
    cases kinds.Digit x y s e = absurd (y refl)
    cases kinds.LineFeed x y s e = (after_others d kinds.LineFeed h s e, λ at. refl)
    cases kinds.Close x y s e = absurd (e refl)
    cases kinds.Space x y s e = absurd (s refl)
    cases k x y s e = (refl, λ at. refl)

    others : (bs : List ℕ) → Ends IsDigit bs → OthersForbidden (Digits d n) bs
    others [] m = tt
    others (c ∷ q) m = λ s e. cases (kind c) (λ i. m (let z = is_zero c i in (omega arith, omega arith))) (λ i. m (let z = is_digit c i in (omega (arith, z.0), z.1))) s e

spelt_settled : (d n : ℕ) (bs : List ℕ) → 0 < d → 0 < n → Ends IsLetter bs → Settled (Word d n) d bs
spelt_settled d n bs h g m = record { space = (word_settled d n h g).0; close = (word_settled d n h g).1; others = others bs m }
  where
    cases : (k : Kind) → (k ≡ kinds.Letter → ⊥) → (k ≡ kinds.Space → ⊥) → (k ≡ kinds.Close → ⊥) → Forbids (Word d n) k
    cases kinds.Close x s e = absurd (e refl)
    cases kinds.Space x s e = absurd (s refl)
    cases kinds.LineFeed x s e = (cond-false (eqb n 0) None (after d kinds.LineFeed) (zero_no n g) ∙ after_others d kinds.LineFeed h s e, λ at. refl)
    cases kinds.Letter x s e = absurd (x refl)
    cases k x s e = (refl, λ at. refl)

    others : (bs : List ℕ) → Ends IsLetter bs → OthersForbidden (Word d n) bs
    others [] m = tt
    others (c ∷ q) m = λ s e. cases (kind c) (λ i. m (is_letter c i)) s e

pub settled_undone : (s : State) (d : ℕ) (bs : List ℕ) → Settled s d bs → s ≡ Done → ⊥
settled_undone s d bs h e = none_some (sym (ap (λ t. goes t kinds.Space) e) ∙ h.space)

-- words

letters_run : (w : List ℕ) (d : ℕ) → All IsLetter w → length w ≤ 8 → run (Word d 0) w ≡ Some (Word d (length w))
letters_run w d all h =
    let none : 0 + length w ≡ length w = omega arith in
    ap (run (Word d 0)) (sym (append-nil w)) ∙ run_word w d 0 [] all (omega arith) ∙ ap (λ n. Some (Word d n)) none

-- of a form its word is read, and perhaps some items
pub record Amid (d : ℕ) (a b : Reader) : Type 0 where
  pub bs : List ℕ
  pub went : Went a b bs
  pub state : State
  pub runs : run (Word d 0) bs ≡ Some state
  pub settled : Settled state d (rest b)

maximal_word : {a b : Reader} {t : TokenAt} {x : Bor (List ℕ)} → Past a t b → t.token ≡ tokens.Word x → Run IsLetter x.now × Ends IsLetter (rest b)
maximal_word {a} {b} p is = subst (λ k. Maximal k (rest b)) is p.maximal

maximal_number : {a b : Reader} {t : TokenAt} {x : Bor (List ℕ)} → Past a t b → t.token ≡ tokens.Number x → Run IsDigit x.now × Ends IsDigit (rest b)
maximal_number {a} {b} p is = subst (λ k. Maximal k (rest b)) is p.maximal

pub word_read : (d : ℕ) {a b : Reader} {t : TokenAt} {x : Bor (List ℕ)} → 0 < d → Past a t b → t.token ≡ tokens.Word x → None ≡ word_refusal x.now t.at → Amid d a b
word_read d {a} {b} {t} {x} h p is short =
    let m = maximal_word p is in
    record {
      bs = x.now;
      went = went_token p is;
      state = Word d (length x.now);
      runs = letters_run x.now d m.0.1 (left_out 8 (length x.now) (ForbiddenByte (t.at + 8)) (sym short));
      settled = spelt_settled d (length x.now) (rest b) h m.0.0 m.1;
    }

pub word_refused : (d : ℕ) {a b : Reader} {t : TokenAt} {x : Bor (List ℕ)} {y : Refusal} → Past a t b → t.token ≡ tokens.Word x → Some y ≡ word_refusal x.now t.at → Stuck (Word d 0) (rest a) a.position y
word_refused d {a} {b} {t} {x} {y} p is long =
    let w = x.now in
    let m = maximal_word p is in
    let q = taken 8 (length w) (sym long) in
    let eight : length (take 8 w) ≡ 8 = length-take-le 8 w (omega (arith, q.0)) in
    let ninth : kind (get_or w 8 0) ≡ kinds.Letter = letter_kind (get_or w 8 0) (All-get_or IsLetter w 8 0 q.0 m.0.1) in
    let runs : run (Word d 0) (take 8 w) ≡ Some (Word d 8) = letters_run (take 8 w) d (All-take IsLetter 8 w m.0.1) (omega arith) ∙ ap (λ n. Some (Word d n)) eight in
    let place : ForbiddenByte (t.at + 8) ≡ ForbiddenByte (a.position + 8) = ap (λ n. ForbiddenByte (n + 8)) p.at in
    subst (λ l. Stuck (Word d 0) l a.position y) (sym (went_token p is).bytes)
    (stuck_at (Word d 0) (Word d 8) w (rest b) 8 a.position q.0 runs (λ e. cc) (ap (goes (Word d 8)) ninth) (sym q.1 ∙ place))

-- numbers

abbrev zero_led : List ℕ → Bool
zero_led ds = ltb 1 (length ds) && eqb (get_or ds 0 0) 48

pub number_fits : (ds : List ℕ) (at : ℕ) → None ≡ number_refusal ds at → (length ds ≤ 7) × (1 < length ds → get_or ds 0 0 ≡ 48 → ⊥)
number_fits ds at e = (grind (arith, nat_tests), λ l z. grind (arith, nat_tests))

abbrev pub Overlong : List ℕ → ℕ → Refusal → Type 0
Overlong ds at y = ((1 < length ds) × (get_or ds 0 0 ≡ 48) × (y ≡ ForbiddenByte (at + 1))) ⊎ ((7 < length ds) × (get_or ds 0 0 ≡ 48 → ⊥) × (y ≡ LongNumber at))

pub number_overlong : (ds : List ℕ) (at : ℕ) (y : Refusal) → Some y ≡ number_refusal ds at → Overlong ds at y
number_overlong ds at y e = cases (zero_led ds) refl e
  where
    cases : (t : Bool) → zero_led ds ≡ t → Some y ≡ cond t (Some (ForbiddenByte (at + 1))) (cond (ltb 7 (length ds)) (Some (LongNumber at)) None) → Overlong ds at y
    cases true h e = inl (grind (arith, nat_tests), grind (arith, nat_tests), some_is e)
    cases false h e = let q = taken 7 (length ds) (sym e) in let long = q.0 in inr (long, (λ z. grind (arith, nat_tests)), sym q.1)

digits_run : (c : ℕ) (cs : List ℕ) (d : ℕ) → kind c ≡ kinds.Digit → All IsDigit cs → length cs ≤ 6 → run (Item d) (c ∷ cs) ≡ Some (Digits d (length (c ∷ cs)))
digits_run c cs d is all h =
    let count : 1 + length cs ≡ length (c ∷ cs) = omega arith in
    run_step (Item d) (Digits d 1) c cs (ap (goes (Item d)) is) ∙ ap (run (Digits d 1)) (sym (append-nil cs)) ∙ run_digits cs d 1 [] all (omega arith) ∙ ap (λ n. Some (Digits d n)) count

nought_run : (c : ℕ) (d : ℕ) → kind c ≡ kinds.Zero → run (Item d) (c ∷ []) ≡ Some (Zero d)
nought_run c d is = run_step (Item d) (Zero d) c [] (ap (goes (Item d)) is)

figure_digit : (c : ℕ) → IsDigit c → (c ≡ 48 → ⊥) → kind c ≡ kinds.Digit
figure_digit c f n = let k = figure_kind c f in grind (arith, nat_tests)

record Counts (d : ℕ) (ds bs : List ℕ) : Type 0 where
  pub state : State
  pub runs : run (Item d) ds ≡ Some state
  pub settled : Settled state d bs

number_counts : (d : ℕ) (ds bs : List ℕ) → 0 < d → Run IsDigit ds → Ends IsDigit bs → length ds ≤ 7 → (1 < length ds → get_or ds 0 0 ≡ 48 → ⊥) → Counts d ds bs
number_counts d [] bs h r m long led = absurd (omega (arith, r.0))
number_counts d (c ∷ cs) bs h r m long led = cases cs (figure_kind c (All-head IsDigit c cs r.1)) (All-tail IsDigit c cs r.1) long led
  where
    cases : (cs : List ℕ) → (kind c ≡ kinds.Zero) ⊎ (kind c ≡ kinds.Digit) → All IsDigit cs → length (c ∷ cs) ≤ 7 → (1 < length (c ∷ cs) → c ≡ 48 → ⊥) → Counts d (c ∷ cs) bs
    cases [] (inl e) all long led = record { state = Zero d; runs = nought_run c d e; settled = nought_settled d bs h }
    cases (b ∷ cs) (inl e) all long led = absurd (led (omega arith) (is_zero c e))
    cases cs (inr e) all long led = record { state = Digits d (length (c ∷ cs)); runs = digits_run c cs d e all (omega arith); settled = digits_settled d (length (c ∷ cs)) bs h m }

number_stuck : (d : ℕ) (ds bs : List ℕ) (start : ℕ) {y : Refusal} → Run IsDigit ds → Overlong ds start y → Stuck (Item d) (ds ++ bs) start y
number_stuck d [] bs start r o = absurd (omega (arith, r.0))
number_stuck d (c ∷ cs) bs start {y} r (inl (long, led, is)) =
    cases (figure_kind (get_or (c ∷ cs) 1 0) (All-get_or IsDigit (c ∷ cs) 1 0 long r.1))
  where
    stuck : (k : Kind) → kind (get_or (c ∷ cs) 1 0) ≡ k → after d k ≡ None → Stuck (Item d) ((c ∷ cs) ++ bs) start y
    stuck k e none = stuck_at (Item d) (Zero d) (c ∷ cs) bs 1 start long (nought_run c d (ap kind led)) (λ e. cc) (ap (after d) e ∙ none) is

    cases : (kind (get_or (c ∷ cs) 1 0) ≡ kinds.Zero) ⊎ (kind (get_or (c ∷ cs) 1 0) ≡ kinds.Digit) → Stuck (Item d) ((c ∷ cs) ++ bs) start y
    cases (inl e) = stuck kinds.Zero e refl
    cases (inr e) = stuck kinds.Digit e refl
number_stuck d (c ∷ cs) bs start {y} r (inr (long, led, is)) =
    cases (figure_kind (get_or (c ∷ cs) 7 0) (All-get_or IsDigit (c ∷ cs) 7 0 long r.1))
  where
    back : start ≡ start + 7 - 7
    back = omega arith

    six : length (take 6 cs) ≡ 6
    six = length-take-le 6 cs (omega arith)

    runs : run (Item d) (take 7 (c ∷ cs)) ≡ Some (Digits d 7)
    runs = digits_run c (take 6 cs) d (figure_digit c (All-head IsDigit c cs r.1) led) (All-take IsDigit 6 cs (All-tail IsDigit c cs r.1)) (omega (arith, six)) ∙ ap (λ n. Some (Digits d n)) (let z : length (c ∷ take 6 cs) ≡ 7 = omega (arith, six) in z)

    cases : (kind (get_or (c ∷ cs) 7 0) ≡ kinds.Zero) ⊎ (kind (get_or (c ∷ cs) 7 0) ≡ kinds.Digit) → Stuck (Item d) ((c ∷ cs) ++ bs) start y
    cases (inl e) = stuck_at (Item d) (Digits d 7) (c ∷ cs) bs 7 start long runs (λ e. cc) (ap (goes (Digits d 7)) e) (is ∙ ap LongNumber back ∙ ap (λ k. refusal_for (fault_of (Digits d 7) k (start + 7))) (sym e))
    cases (inr e) = stuck_at (Item d) (Digits d 7) (c ∷ cs) bs 7 start long runs (λ e. cc) (ap (goes (Digits d 7)) e) (is ∙ ap LongNumber back ∙ ap (λ k. refusal_for (fault_of (Digits d 7) k (start + 7))) (sym e))

pub item_number : (d : ℕ) {a b : Reader} {t : TokenAt} {x : Bor (List ℕ)} → 0 < d → Past a t b → t.token ≡ tokens.Number x → (r : Result (Unit {0}) Refusal) → refused r ≡ number_refusal x.now t.at → ItemSteps d a r b
item_number d {a} {b} {t} {x} h p is (Ok u) e =
    let m = maximal_number p is in
    let f = number_fits x.now t.at e in
    let n = number_counts d x.now (rest b) h m.0 m.1 f.0 f.1 in
    record { bs = x.now; went = went_token p is; state = n.state; runs = n.runs; settled = n.settled }
item_number d {a} {b} {t} {x} h p is (Err y) e =
    let m = maximal_number p is in
    let w = went_token p is in
    let long = subst (λ n. Overlong x.now n y) p.at (number_overlong x.now t.at y e) in
    (w.same, subst (λ l. Stuck (Item d) l a.position y) (sym w.bytes) (number_stuck d x.now (rest b) a.position m.0 long))

-- nested forms

opens : (d n : ℕ) → d < 4 → n ≡ d + 1 → goes (Item d) kinds.Open ≡ Some (Word n 0)
opens d n h deeper = cond-true (ltb d 4) (Some (Word (d + 1) 0)) None (lt-ltb d 4 h) ∙ ap (λ m. Some (Word m 0)) (sym deeper)

pub item_form : (d n : ℕ) (e : Reader) {a b : Reader} {t : TokenAt} → 0 < d → d < 4 → n ≡ d + 1 → Past a t b → t.token ≡ tokens.Open → (r : Result (Unit {0}) Refusal) → FormSteps n b r e → ItemSteps d a r e
item_form d n e {a} {b} h l deeper p is (Ok u) f =
    let back : n - 1 ≡ d = omega arith in
    record {
      bs = 40 ∷ f.bs;
      went = went_then (went_token p is) f.went;
      state = Closed d;
      runs = run_step (Item d) (Word n 0) 40 f.bs (opens d n l deeper) ∙ f.runs ∙ ap (λ m. Some (Closed m)) back;
      settled = closed_settled d (rest e) h;
    }
item_form d n e {a} {b} h l deeper p is (Err y) f =
    let w = went_token p is in
    (f.0 ∙ w.same, stuck_later (Item d) (Word n 0) w (run_step (Item d) (Word n 0) 40 [] (opens d n l deeper)) f.1)

pub item_deep : (d : ℕ) {a b : Reader} {t : TokenAt} → 4 ≤ d → Past a t b → t.token ≡ tokens.Open → Stuck (Item d) (rest a) a.position (DeepForm t.at)
item_deep d {a} {b} {t} h p is =
    let w = went_token p is in
    let none : goes (Item d) kinds.Open ≡ None = cond-false (ltb d 4) (Some (Word (d + 1) 0)) None (le-ltb d 4 h) in
    stuck_here (Item d) (rest a) a.position (λ e. cc) (subst (λ l. Tells (Item d) l a.position (DeepForm t.at)) (sym w.bytes) (none, ap DeepForm p.at))

-- items one after another

pub items_more : {d : ℕ} {a b e f : Reader} {t : TokenAt} → ReadItems d a b → Past b t e → t.token ≡ tokens.Space → ReadItem d e f → ReadItems d a f
items_more {d} {a} {b} {e} {f} r p is i =
    record {
      bs = r.bs ++ 32 ∷ i.bs;
      went = went_then r.went (went_then (went_token p is) i.went);
      runs = λ s h. let q = r.runs s h in (i.state, run_then s q.0 r.bs (32 ∷ i.bs) q.1 ∙ run_step q.0 (Item d) 32 i.bs q.2.space ∙ i.runs, i.settled);
    }

-- a form that is read in part

pub amid_more : {d : ℕ} {a b e : Reader} → Amid d a b → ReadItems d b e → Amid d a e
amid_more {d} {a} {b} {e} g r =
    let q = r.runs g.state g.settled in
    record {
      bs = g.bs ++ r.bs;
      went = went_then g.went r.went;
      state = q.0;
      runs = run_then (Word d 0) g.state g.bs r.bs g.runs ∙ q.1;
      settled = q.2;
    }

pub form_closed : {d : ℕ} {a b e : Reader} {t : TokenAt} → Amid d a b → Past b t e → t.token ≡ tokens.Close → ReadForm d a e
form_closed {d} {a} {b} {e} g p is =
    record {
      bs = g.bs ++ 41 ∷ [];
      went = went_then g.went (went_token p is);
      runs = run_then (Word d 0) g.state g.bs (41 ∷ []) g.runs ∙ run_step g.state (Closed (d - 1)) 41 [] g.settled.close;
    }

amid_stuck : {d : ℕ} {a b : Reader} {y : Refusal} → (g : Amid d a b) → Stuck g.state (rest b) b.position y → Stuck (Word d 0) (rest a) a.position y
amid_stuck {d} g k = stuck_later (Word d 0) g.state g.went g.runs k

pub mark_strange : {d : ℕ} {a b : Reader} {y : Refusal} → Amid d a b → y ≡ ForbiddenByte b.position → NoToken (rest b) → Stuck (Word d 0) (rest a) a.position y
mark_strange {d} {a} {b} {y} g is h = amid_stuck g (stuck_strange g.state b y (settled_undone g.state d (rest b) g.settled) is h)

pub mark_other : {d : ℕ} {a b e : Reader} {t : TokenAt} → Amid d a b → Past b t e → (t.token ≡ tokens.Space → ⊥) → (t.token ≡ tokens.Close → ⊥) → Stuck (Word d 0) (rest a) a.position (ForbiddenByte t.at)
mark_other {d} {a} {b} {e} {t} g p s c =
    let h = heads p in
    let balks : OthersForbidden g.state (h.first ∷ h.others) = subst (OthersForbidden g.state) h.is g.settled.others in
    amid_stuck g (stuck_token g.state (settled_undone g.state d (rest b) g.settled) p (balks (no_space t.token (kind h.first) s h.kindly) (no_close t.token (kind h.first) c h.kindly)))

pub item_stuck : {d : ℕ} {a b e : Reader} {t : TokenAt} {y : Refusal} → Amid d a b → Past b t e → t.token ≡ tokens.Space → Stuck (Item d) (rest e) e.position y → Stuck (Word d 0) (rest a) a.position y
item_stuck {d} g p is k = amid_stuck g (stuck_later g.state (Item d) (went_token p is) (run_step g.state (Item d) 32 [] g.settled.space) k)

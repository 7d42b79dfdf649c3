-- Where a run goes no further the line is refused, and how. Assumes nothing.
use Rattle.std.proofs.Common.{◌≡◌, ℕ, ◌+◌, ◌-◌, ◌≤◌, cond, eqb, count_by, ◌⊎◌, List, [], ◌∷◌, ◌++◌, length, Some, None, Option, sym, refl, ap, ◌∙◌, inl, inr, append_assoc, append-nil, arith, length-append}
use Rattle.std.proofs.lemmas.Bool.Decides.{nat_tests}
use Rattle.std.specs.List.{All}
use Rattle.std.proofs.lemmas.List.Sums.{sum_by-cons}
use Rattle.std.proofs.lemmas.List.Elements.{All-cons, All-head, All-tail}
use Rattle.grammar.specs.Kinds.{kind}
use Rattle.grammar.specs.Forms.{IsDigit}
use Rattle.grammar.specs.Faults.{Begins, Whole, Halts, Eighth, Fifth, Faulty}
use Rattle.grammar.specs.States.{goes, after, from, run, fault_of}
use Rattle.grammar.specs.declared.kind.Kind.{Kind}
use Rattle.grammar.specs.declared.kind.Kind.TheVariants as kinds
use Rattle.grammar.specs.Faults.{forbidden, too_long, too_deep}
use Rattle.grammar.specs.States.{State, Start, Word, Item, Zero, Digits, Closed, Done}
use Rattle.grammar.proofs.Steps.{is_open, is_zero, is_digit, figure_kind, some_is, none_some, taken, not_zero, only_zero, left_out}
use Rattle.grammar.proofs.Runs.{from-append, front_runs, run_digits, run-line}
use Rattle.grammar.proofs.Reach.{reached, reach_begins, not_deeper, Counting}

-- how many forms are open

abbrev deep_of : State → ℕ
deep_of Start = 0
deep_of (Word d n) = d
deep_of (Item d) = d
deep_of (Zero d) = d
deep_of (Digits d n) = d
deep_of (Closed d) = d
deep_of Done = 0

abbrev ups : Kind → ℕ
ups kinds.Open = 1
ups _ = 0

abbrev downs : Kind → ℕ
downs kinds.Close = 1
downs _ = 0

after_deep : (d : ℕ) (t : State) (k : Kind) → after d k ≡ Some t → d + ups k ≡ deep_of t + downs k
after_deep d t kinds.Close e = let q = not_zero d (Some (Closed (d - 1))) e in rw (← some_is q.1) (omega (arith, q.0))
after_deep d t kinds.Space e = rw (← some_is (not_zero d (Some (Item d)) e).1) refl
after_deep d t kinds.LineFeed e = let q = only_zero d e in rw (← q.1) (omega (arith, q.0))
after_deep d t k e = cc

step_deep : (s t : State) (k : Kind) → goes s k ≡ Some t → deep_of s + ups k ≡ deep_of t + downs k
step_deep Start t kinds.Open e = rw (← some_is e) (omega arith)
step_deep Start t k e = cc
step_deep (Word d n) t kinds.Close e = after_deep d t kinds.Close (not_zero n (after d kinds.Close) e).1
step_deep (Word d n) t kinds.Space e = after_deep d t kinds.Space (not_zero n (after d kinds.Space) e).1
step_deep (Word d n) t kinds.LineFeed e = after_deep d t kinds.LineFeed (not_zero n (after d kinds.LineFeed) e).1
step_deep (Word d n) t kinds.Letter e = rw (← (taken n 8 e).1) refl
step_deep (Word d n) t k e = cc
step_deep (Item d) t kinds.Open e = rw (← (taken d 4 e).1) (omega arith)
step_deep (Item d) t kinds.Zero e = rw (← some_is e) refl
step_deep (Item d) t kinds.Digit e = rw (← some_is e) refl
step_deep (Item d) t k e = cc
step_deep (Zero d) t k e = after_deep d t k e
step_deep (Digits d n) t kinds.Zero e = rw (← (taken n 7 e).1) refl
step_deep (Digits d n) t kinds.Digit e = rw (← (taken n 7 e).1) refl
step_deep (Digits d n) t k e = after_deep d t k e
step_deep (Closed d) t k e = after_deep d t k e
step_deep Done t k e = cc

ups_count : (c : ℕ) → ups (kind c) ≡ cond (eqb c 40) 1 0
ups_count c = grind (arith, nat_tests)

downs_count : (c : ℕ) → downs (kind c) ≡ cond (eqb c 41) 1 0
downs_count c = grind (arith, nat_tests)

-- how often the byte stands in the list
abbrev count : ℕ → List ℕ → ℕ
count b cs = count_by (λ c. eqb c b) cs

count-cons : (b c : ℕ) (cs : List ℕ) → count b (c ∷ cs) ≡ cond (eqb c b) 1 0 + count b cs
count-cons b c cs = sum_by-cons (λ x. cond (eqb x b) 1 0) c cs

run_deep : (cs : List ℕ) (s t : State) → run s cs ≡ Some t → deep_of s + count 40 cs ≡ deep_of t + count 41 cs
run_deep [] s t e = rw (← some_is e) refl
run_deep (c ∷ cs) s t e = cases (goes s (kind c)) refl e (λ u q. run_deep cs u t q)
  where
    cases : (o : Option State) → goes s (kind c) ≡ o → from o cs ≡ Some t → ((u : State) → run u cs ≡ Some t → deep_of u + count 40 cs ≡ deep_of t + count 41 cs) → deep_of s + count 40 (c ∷ cs) ≡ deep_of t + count 41 (c ∷ cs)
    cases None h q on = cc
    cases (Some u) h q on = omega (arith, step_deep s u (kind c) h, ups_count c, downs_count c, count-cons 40 c cs, count-cons 41 c cs, on u q)

-- after a space an item is read

after_space : (d : ℕ) (t : State) → after d kinds.Space ≡ Some t → (e : ℕ) × (t ≡ Item e)
after_space d t e = (d, sym (some_is (not_zero d (Some (Item d)) e).1))

step_space : (s t : State) → goes s kinds.Space ≡ Some t → (e : ℕ) × (t ≡ Item e)
step_space (Word d n) t e = after_space d t (not_zero n (after d kinds.Space) e).1
step_space (Zero d) t e = after_space d t e
step_space (Digits d n) t e = after_space d t e
step_space (Closed d) t e = after_space d t e
step_space s t e = cc

one_step : (s t : State) (c : ℕ) → run s (c ∷ []) ≡ Some t → goes s (kind c) ≡ Some t
one_step s t c e = cases (goes s (kind c)) refl e
  where
    cases : (o : Option State) → goes s (kind c) ≡ o → from o [] ≡ Some t → goes s (kind c) ≡ Some t
    cases None h q = absurd (none_some q)
    cases (Some u) h q = h ∙ q

spaced : (u : List ℕ) (t : State) → run Start (u ++ 32 ∷ []) ≡ Some t → (e : ℕ) × (t ≡ Item e)
spaced u t e = let q = front_runs Start t u (32 ∷ []) e in step_space q.0 t (one_step q.0 t 32 q.2)

-- seven digits after a space

seven : (ds : List ℕ) (d : ℕ) (t : State) → length ds ≡ 7 → All IsDigit ds → run (Item d) ds ≡ Some t → t ≡ Digits d 7
seven [] d t n a e = absurd (omega arith)
seven (c ∷ []) d t n a e = absurd (omega arith)
seven (c ∷ b ∷ cs) d t n a e = first (figure_kind c (All-head IsDigit c (b ∷ cs) a))
  where
    second : (kind b ≡ kinds.Zero) ⊎ (kind b ≡ kinds.Digit) → run (Zero d) (b ∷ cs) ≡ Some t → ⊥
    second (inl h) q = none_some (sym (ap (λ k. from (goes (Zero d) k) cs) h) ∙ q)
    second (inr h) q = none_some (sym (ap (λ k. from (goes (Zero d) k) cs) h) ∙ q)

    first : (kind c ≡ kinds.Zero) ⊎ (kind c ≡ kinds.Digit) → t ≡ Digits d 7
    first (inl h) = absurd (second (figure_kind b (All-head IsDigit b cs (All-tail IsDigit c (b ∷ cs) a))) (sym (ap (λ k. from (goes (Item d) k) (b ∷ cs)) h) ∙ e))
    first (inr h) =
        let rest : run (Digits d 1) (b ∷ cs) ≡ Some t = sym (ap (λ k. from (goes (Item d) k) (b ∷ cs)) h) ∙ e in
        let all : run (Digits d 1) ((b ∷ cs) ++ []) ≡ Some (Digits d (1 + length (b ∷ cs))) = run_digits (b ∷ cs) d 1 [] (All-tail IsDigit c (b ∷ cs) a) (omega arith) in
        let long : 1 + length (b ∷ cs) ≡ 7 = omega arith in
        some_is (sym rest ∙ ap (run (Digits d 1)) (sym (append-nil (b ∷ cs))) ∙ all) ∙ ap (Digits d) long

-- refusals

whole_run : (p : List ℕ) → Whole p → run Start p ≡ Some Done
whole_run p w = sym (ap (run Start) w.is) ∙ run-line w.tree w.lawful

pub begins_run : (p : List ℕ) → Begins p → (u : State) × (run Start p ≡ Some u)
begins_run p b =
    let q = front_runs Start Done p b.left (sym (ap (run Start) b.is) ∙ run-line b.tree b.lawful) in
    (q.0, q.1)

pub halts_at : (s : State) (p : List ℕ) (c : ℕ) (q : List ℕ) → run Start p ≡ Some s → (s ≡ Done → ⊥) → goes s (kind c) ≡ None → Halts (p ++ c ∷ q) p (c ∷ q)
halts_at s p c q e n h =
    record {
      split = refl;
      begins = reach_begins s p (reached p s e);
      part = λ w. n (some_is (sym e ∙ whole_run p w));
      stops = λ b. let g = begins_run (p ++ c ∷ []) b in none_some (sym (from-append (Some Start) p (c ∷ []) ∙ ap (λ o. from o (c ∷ [])) e ∙ ap (λ o. from o []) h) ∙ g.1);
    }

pub halts_end : (s : State) (p : List ℕ) → run Start p ≡ Some s → (s ≡ Done → ⊥) → Halts p p []
halts_end s p e n =
    record { split = sym (append-nil p); begins = reach_begins s p (reached p s e); part = λ w. n (some_is (sym e ∙ whole_run p w)); stops = tt }

pub refuse_end : (s : State) (p : List ℕ) (start : ℕ) → run Start p ≡ Some s → (s ≡ Done → ⊥) → Faulty start p (forbidden (start + length p))
refuse_end s p start e n =
    record {
      o = length p;
      is = refl;
      fact = record { p = p; q = []; halts = halts_end s p e n; here = refl; not_long = λ u ds g. g.next; not_deep = λ u g. g.next };
    }

byte_long : (a b : ℕ) → forbidden a ≡ too_long b → ⊥
byte_long a b e = cc

byte_deep : (a b : ℕ) → forbidden a ≡ too_deep b → ⊥
byte_deep a b e = cc

refuse_byte : (s : State) (p : List ℕ) (c : ℕ) (q : List ℕ) (start : ℕ) → run Start p ≡ Some s → Halts (p ++ c ∷ q) p (c ∷ q) → forbidden (start + length p) ≡ fault_of s (kind c) (start + length p) → Faulty start (p ++ c ∷ q) (forbidden (start + length p))
refuse_byte s p c q start e halts is =
    record {
      o = length p;
      is = refl;
      fact = record { p = p; q = c ∷ q; halts = halts; here = refl; not_long = long; not_deep = deep };
    }
  where
    long_case : (d : ℕ) → s ≡ Digits d 7 → (kind c ≡ kinds.Zero) ⊎ (kind c ≡ kinds.Digit) → ⊥
    long_case d h (inl k) = byte_long (start + length p) (start + length p - 7) (is ∙ ap (λ t. fault_of t (kind c) (start + length p)) h ∙ ap (λ t. fault_of (Digits d 7) t (start + length p)) k)
    long_case d h (inr k) = byte_long (start + length p) (start + length p - 7) (is ∙ ap (λ t. fault_of t (kind c) (start + length p)) h ∙ ap (λ t. fault_of (Digits d 7) t (start + length p)) k)

    long : (u ds : List ℕ) → Eighth p (c ∷ q) u ds → ⊥
    long u ds g =
        let r = front_runs Start s (u ++ 32 ∷ []) ds (sym (ap (run Start) g.cut) ∙ e) in
        let i = spaced u r.0 r.1 in
        long_case i.0 (seven ds i.0 s g.seven g.digits (sym (ap (λ t. run t ds) i.1) ∙ r.2)) (figure_kind c g.next)

    deep : (u : List ℕ) → Fifth p (c ∷ q) u → ⊥
    deep u g =
        let i = spaced u s (sym (ap (run Start) g.cut) ∙ e) in
        byte_deep (start + length p) (start + length p) (is ∙ ap (λ t. fault_of t (kind c) (start + length p)) i.1 ∙ ap (λ b. fault_of (Item i.0) (kind b) (start + length p)) g.next)

refuse_deep : (d : ℕ) (p : List ℕ) (c : ℕ) (q : List ℕ) (start : ℕ) → run Start p ≡ Some (Item d) → kind c ≡ kinds.Open → goes (Item d) kinds.Open ≡ None → Halts (p ++ c ∷ q) p (c ∷ q) → Faulty start (p ++ c ∷ q) (too_deep (start + length p))
refuse_deep d p c q start e k h halts =
    let r = reached p (Item d) e in
    let cut : p ≡ r.before ++ 32 ∷ [] = r.is in
    let high = left_out d 4 (Word (d + 1) 0) h in
    let low = not_deeper d r.before r.within in
    record {
      o = length p;
      is = refl;
      fact = record {
        p = p;
        q = c ∷ q;
        u = r.before;
        halts = halts;
        deep = record { cut = cut; four = omega (arith, run_deep p Start (Item d) e, high, low); next = is_open c k };
        here = refl;
      };
    }

refuse_long : (d n : ℕ) (p : List ℕ) (c : ℕ) (q : List ℕ) (start : ℕ) → run Start p ≡ Some (Digits d n) → IsDigit c → 7 ≤ n → Halts (p ++ c ∷ q) p (c ∷ q) → Faulty start (p ++ c ∷ q) (too_long (start + length p - n))
refuse_long d n p c q start e k h halts =
    let r : Counting d n p = reached p (Digits d n) e in
    let cut : p ≡ (r.before ++ 32 ∷ []) ++ (r.first ∷ r.others) = r.is ∙ sym (append_assoc r.before (32 ∷ []) (r.first ∷ r.others)) in
    let size : length p ≡ length (r.before ++ 32 ∷ []) + length (r.first ∷ r.others) = ap length cut ∙ length-append (r.before ++ 32 ∷ []) (r.first ∷ r.others) in
    record {
      o = length (r.before ++ 32 ∷ []);
      is = omega (arith, size, r.long);
      fact = record {
        p = p;
        q = c ∷ q;
        u = r.before;
        ds = r.first ∷ r.others;
        halts = halts;
        long = record { cut = cut; seven = omega (arith, r.long, r.fits); digits = All-cons IsDigit r.first r.others (omega (arith, r.low), r.high) r.figures; next = k };
        here = refl;
      };
    }

-- a byte that has no step is refused as `fault_of` says
pub refuse : (s : State) (p : List ℕ) (c : ℕ) (q : List ℕ) (start : ℕ) → run Start p ≡ Some s → (s ≡ Done → ⊥) → goes s (kind c) ≡ None → Faulty start (p ++ c ∷ q) (fault_of s (kind c) (start + length p))
refuse (Item d) p c q start e n h = cases (kind c) refl h
  where
    halts : Halts (p ++ c ∷ q) p (c ∷ q)
    halts = halts_at (Item d) p c q e n h

    cases : (k : Kind) → kind c ≡ k → goes (Item d) k ≡ None → Faulty start (p ++ c ∷ q) (fault_of (Item d) k (start + length p))
    cases kinds.Open is g = refuse_deep d p c q start e is g halts
    cases k is g = refuse_byte (Item d) p c q start e halts (ap (λ t. fault_of (Item d) t (start + length p)) (sym is))
refuse (Digits d m) p c q start e n h = cases (kind c) refl h
  where
    halts : Halts (p ++ c ∷ q) p (c ∷ q)
    halts = halts_at (Digits d m) p c q e n h

    figure : IsDigit c → goes (Digits d m) kinds.Digit ≡ None → Faulty start (p ++ c ∷ q) (too_long (start + length p - m))
    figure is g = refuse_long d m p c q start e is (left_out m 7 (Digits d (m + 1)) g) halts

    cases : (k : Kind) → kind c ≡ k → goes (Digits d m) k ≡ None → Faulty start (p ++ c ∷ q) (fault_of (Digits d m) k (start + length p))
    cases kinds.Zero is g = figure (let k = is_zero c is in (omega arith, omega arith)) g
    cases kinds.Digit is g = figure (let k = is_digit c is in (omega (arith, k.0), k.1)) g
    cases k is g = refuse_byte (Digits d m) p c q start e halts (ap (λ t. fault_of (Digits d m) t (start + length p)) (sym is))
refuse Done p c q start e n h = absurd (n refl)
refuse s p c q start e n h = refuse_byte s p c q start e (halts_at s p c q e n h) refl

-- Bytes begin with exactly one lawful line or have exactly one refusal. Assumes nothing.
use Rattle.std.proofs.Common.{◌≡◌, ℕ, ◌+◌, ◌⊎◌, List, [], ◌∷◌, ◌++◌, length, Some, None, Option, sym, refl, ap, ◌∙◌, subst, inl, inr, append_assoc, append-nil, arith, length-append}
use Rattle.grammar.specs.Kinds.{kind}
use Rattle.grammar.specs.Forms.{Form, IsDigit, line, Lawful}
use Rattle.grammar.specs.Faults.{Begins, First, Stops, Halts, Eighth, Fifth, Faulty, Leads}
use Rattle.grammar.specs.States.{goes, from, run, fault_of}
use Rattle.grammar.specs.Faults.{Fault, forbidden, too_long, too_deep}
use Rattle.grammar.specs.States.{State, Start, Done}
use Rattle.grammar.proofs.Steps.{none_some}
use Rattle.grammar.proofs.Runs.{from-append, run-line}
use Rattle.grammar.proofs.Reach.{reached}
use Rattle.grammar.proofs.Same.{rest_same, head_same, lawful_spelt, line_same}
use Rattle.grammar.proofs.Stuck.{refuse, refuse_end}

-- complete

done_or_not : (s : State) → (s ≡ Done) ⊎ (s ≡ Done → ⊥)
done_or_not Done = inl refl
done_or_not s = inr (λ e. cc)

goes_on : (q : List ℕ) (s : State) (p : List ℕ) (start : ℕ) → run Start p ≡ Some s → (s ≡ Done → ⊥) → Leads (p ++ q) ⊎ ((y : Fault) × Faulty start (p ++ q) y)
goes_on [] s p start e n = inr (forbidden (start + length p), subst (λ l. Faulty start l (forbidden (start + length p))) (sym (append-nil p)) (refuse_end s p start e n))
goes_on (c ∷ q) s p start e n = cases (goes s (kind c)) refl (λ t h g. goes_on q t (p ++ c ∷ []) start h g)
  where
    ran : (t : State) → goes s (kind c) ≡ Some t → run Start (p ++ c ∷ []) ≡ Some t
    ran t h = from-append (Some Start) p (c ∷ []) ∙ ap (λ o. from o (c ∷ [])) e ∙ ap (λ o. from o []) h

    whole : run Start (p ++ c ∷ []) ≡ Some Done → Leads (p ++ c ∷ q)
    whole h = let w = reached (p ++ c ∷ []) Done h in record { tree = w.tree; lawful = w.lawful; tail = q; is = sym (append_assoc p (c ∷ []) q) ∙ ap (λ l. l ++ q) (sym w.is) }

    then : (t : State) → run Start (p ++ c ∷ []) ≡ Some t → (t ≡ Done) ⊎ (t ≡ Done → ⊥) → ((t : State) → run Start (p ++ c ∷ []) ≡ Some t → (t ≡ Done → ⊥) → Leads ((p ++ c ∷ []) ++ q) ⊎ ((y : Fault) × Faulty start ((p ++ c ∷ []) ++ q) y)) → Leads (p ++ c ∷ q) ⊎ ((y : Fault) × Faulty start (p ++ c ∷ q) y)
    then t h (inl d) on = inl (whole (h ∙ ap Some d))
    then t h (inr d) on = subst (λ l. Leads l ⊎ ((y : Fault) × Faulty start l y)) (append_assoc p (c ∷ []) q) (on t h d)

    cases : (o : Option State) → goes s (kind c) ≡ o → ((t : State) → run Start (p ++ c ∷ []) ≡ Some t → (t ≡ Done → ⊥) → Leads ((p ++ c ∷ []) ++ q) ⊎ ((y : Fault) × Faulty start ((p ++ c ∷ []) ++ q) y)) → Leads (p ++ c ∷ q) ⊎ ((y : Fault) × Faulty start (p ++ c ∷ q) y)
    cases None h on = inr (fault_of s (kind c) (start + length p), refuse s p c q start e n h)
    cases (Some t) h on = then t (ran t h) (done_or_not t) on

-- some line or some refusal
pub some_outcome : (start : ℕ) (bs : List ℕ) → Leads bs ⊎ ((y : Fault) × Faulty start bs y)
some_outcome start bs = goes_on bs Start [] start refl (λ e. cc)

-- exclusive

-- two fronts of the same bytes: one is a front of the other
pub record Beyond (p q l : List ℕ) : Type 0 where
  pub c : ℕ
  pub m : List ℕ
  pub u : List ℕ
  pub is : l ≡ (p ++ c ∷ []) ++ m
  pub next : q ≡ c ∷ u

fronts : (p q l t : List ℕ) → p ++ q ≡ l ++ t → ((p ≡ l) × (q ≡ t)) ⊎ (Beyond p q l ⊎ Beyond l t p)
fronts [] q [] t e = inl (refl, e)
fronts [] q (c ∷ l) t e = inr (inl (record { c = c; m = l; u = l ++ t; is = refl; next = e }))
fronts (c ∷ p) q [] t e = inr (inr (record { c = c; m = p; u = p ++ q; is = refl; next = sym e }))
fronts (b ∷ p) q (c ∷ l) t e = cases (fronts p q l t (rest_same e))
  where
    cases : ((p ≡ l) × (q ≡ t)) ⊎ (Beyond p q l ⊎ Beyond l t p) → ((b ∷ p ≡ c ∷ l) × (q ≡ t)) ⊎ (Beyond (b ∷ p) q (c ∷ l) ⊎ Beyond (c ∷ l) t (b ∷ p))
    cases (inl h) = inl (ap (λ x. x ∷ p) (head_same e) ∙ ap (λ x. c ∷ x) h.0, h.1)
    cases (inr (inl h)) = inr (inl (record { c = h.c; m = h.m; u = h.u; is = ap (λ x. x ∷ l) (sym (head_same e)) ∙ ap (λ x. b ∷ x) h.is; next = h.next }))
    cases (inr (inr h)) = inr (inr (record { c = h.c; m = h.m; u = h.u; is = ap (λ x. x ∷ p) (head_same e) ∙ ap (λ x. c ∷ x) h.is; next = h.next }))

-- nothing goes past where bytes halt
not_past : (bs p q l : List ℕ) → Halts bs p q → Begins l → Beyond p q l → ⊥
not_past bs p q l h b y =
    subst (Stops p) y.next h.stops (record { tree = b.tree; lawful = b.lawful; left = y.m ++ b.left; is = b.is ∙ ap (λ x. x ++ b.left) y.is ∙ append_assoc (p ++ y.c ∷ []) y.m b.left })

-- nor goes anything past a whole line
after_done : (c : ℕ) (m : List ℕ) (s : State) → run Done (c ∷ m) ≡ Some s → ⊥
after_done c m s e = none_some e

not_past_line : (f : Form) (l t : List ℕ) → Lawful f 4 → Begins l → Beyond (line f) t l → ⊥
not_past_line f l t w b y =
    let all : run Start ((line f ++ y.c ∷ []) ++ (y.m ++ b.left)) ≡ Some Done = sym (ap (run Start) (b.is ∙ ap (λ x. x ++ b.left) y.is ∙ append_assoc (line f ++ y.c ∷ []) y.m b.left)) ∙ run-line b.tree b.lawful in
    after_done y.c (y.m ++ b.left) Done (sym (from-append (Some Start) (line f) (y.c ∷ (y.m ++ b.left)) ∙ ap (λ o. from o (y.c ∷ (y.m ++ b.left))) (run-line f w)) ∙ ap (run Start) (sym (append_assoc (line f) (y.c ∷ []) (y.m ++ b.left))) ∙ all)

line_begins : (f : Form) → Lawful f 4 → Begins (line f)
line_begins f w = record { tree = f; lawful = w; left = []; is = sym (append-nil (line f)) }

halts_not_leads : (bs p q : List ℕ) → Halts bs p q → Leads bs → ⊥
halts_not_leads bs p q h l = cases (fronts p q (line l.tree) l.tail (sym h.split ∙ l.is))
  where
    cases : ((p ≡ line l.tree) × (q ≡ l.tail)) ⊎ (Beyond p q (line l.tree) ⊎ Beyond (line l.tree) l.tail p) → ⊥
    cases (inl e) = h.part (record { tree = l.tree; lawful = l.lawful; is = sym e.0 })
    cases (inr (inl y)) = not_past bs p q (line l.tree) h (line_begins l.tree l.lawful) y
    cases (inr (inr y)) = not_past_line l.tree p l.tail l.lawful h.begins y

halts_same : (bs p q l t : List ℕ) → Halts bs p q → Halts bs l t → (p ≡ l) × (q ≡ t)
halts_same bs p q l t h g = cases (fronts p q l t (sym h.split ∙ g.split))
  where
    cases : ((p ≡ l) × (q ≡ t)) ⊎ (Beyond p q l ⊎ Beyond l t p) → (p ≡ l) × (q ≡ t)
    cases (inl e) = e
    cases (inr (inl y)) = absurd (not_past bs p q l h g.begins y)
    cases (inr (inr y)) = absurd (not_past bs l t p g h.begins y)

-- not both
pub not_both : (start : ℕ) (bs : List ℕ) (y : Fault) → Leads bs → Faulty start bs y → ⊥
not_both start bs (forbidden at) l r = halts_not_leads bs r.fact.p r.fact.q r.fact.halts l
not_both start bs (too_long at) l r = halts_not_leads bs r.fact.p r.fact.q r.fact.halts l
not_both start bs (too_deep at) l r = halts_not_leads bs r.fact.p r.fact.q r.fact.halts l

-- one line
pub one_line : (bs : List ℕ) (a b : Leads bs) → (a.tree ≡ b.tree) × (a.tail ≡ b.tail)
one_line bs a b = line_same a.tree b.tree (lawful_spelt a.tree 4 a.lawful) (lawful_spelt b.tree 4 b.lawful) a.tail b.tail (sym a.is ∙ b.is)

-- one refusal

eighth_by : (p q p' q' u ds : List ℕ) → (p ≡ p') × (q ≡ q') → Eighth p q u ds → Eighth p' q' u ds
eighth_by p q p' q' u ds e g = subst (λ x. Eighth p' x u ds) e.1 (subst (λ x. Eighth x q u ds) e.0 g)

fifth_by : (p q p' q' u : List ℕ) → (p ≡ p') × (q ≡ q') → Fifth p q u → Fifth p' q' u
fifth_by p q p' q' u e g = subst (λ x. Fifth p' x u) e.1 (subst (λ x. Fifth x q u) e.0 g)

eighth_fifth : (p q u ds v : List ℕ) → Eighth p q u ds → Fifth p q v → ⊥
eighth_fifth p q u ds v a b = cases q a.next b.next
  where
    cases : (q : List ℕ) → First IsDigit q → First (λ c. c ≡ 40) q → ⊥
    cases [] x y = x
    cases (c ∷ q) x y = omega (arith, x.0, y)

eighths : (p q u ds v es : List ℕ) → Eighth p q u ds → Eighth p q v es → length (u ++ 32 ∷ []) ≡ length (v ++ 32 ∷ [])
eighths p q u ds v es a b =
    let x : length p ≡ length (u ++ 32 ∷ []) + length ds = ap length a.cut ∙ length-append (u ++ 32 ∷ []) ds in
    let y : length p ≡ length (v ++ 32 ∷ []) + length es = ap length b.cut ∙ length-append (v ++ 32 ∷ []) es in
    omega (arith, x, y, a.seven, b.seven)

pub one_refusal : (start : ℕ) (bs : List ℕ) (y z : Fault) → Faulty start bs y → Faulty start bs z → y ≡ z
one_refusal start bs (forbidden a) (forbidden b) r s =
    let e = halts_same bs r.fact.p r.fact.q s.fact.p s.fact.q r.fact.halts s.fact.halts in
    ap forbidden (let k : a ≡ b = omega (arith, r.is, s.is, r.fact.here, s.fact.here, ap length e.0) in k)
one_refusal start bs (forbidden a) (too_long b) r s =
    let e = halts_same bs s.fact.p s.fact.q r.fact.p r.fact.q s.fact.halts r.fact.halts in
    absurd (r.fact.not_long s.fact.u s.fact.ds (eighth_by _ _ _ _ _ _ e s.fact.long))
one_refusal start bs (forbidden a) (too_deep b) r s =
    let e = halts_same bs s.fact.p s.fact.q r.fact.p r.fact.q s.fact.halts r.fact.halts in
    absurd (r.fact.not_deep s.fact.u (fifth_by _ _ _ _ _ e s.fact.deep))
one_refusal start bs (too_long a) (forbidden b) r s =
    let e = halts_same bs r.fact.p r.fact.q s.fact.p s.fact.q r.fact.halts s.fact.halts in
    absurd (s.fact.not_long r.fact.u r.fact.ds (eighth_by _ _ _ _ _ _ e r.fact.long))
one_refusal start bs (too_long a) (too_long b) r s =
    let e = halts_same bs r.fact.p r.fact.q s.fact.p s.fact.q r.fact.halts s.fact.halts in
    let l = eighths s.fact.p s.fact.q r.fact.u r.fact.ds s.fact.u s.fact.ds (eighth_by _ _ _ _ _ _ e r.fact.long) s.fact.long in
    ap too_long (let k : a ≡ b = omega (arith, r.is, s.is, r.fact.here, s.fact.here, l) in k)
one_refusal start bs (too_long a) (too_deep b) r s =
    let e = halts_same bs r.fact.p r.fact.q s.fact.p s.fact.q r.fact.halts s.fact.halts in
    absurd (eighth_fifth s.fact.p s.fact.q r.fact.u r.fact.ds s.fact.u (eighth_by _ _ _ _ _ _ e r.fact.long) s.fact.deep)
one_refusal start bs (too_deep a) (forbidden b) r s =
    let e = halts_same bs r.fact.p r.fact.q s.fact.p s.fact.q r.fact.halts s.fact.halts in
    absurd (s.fact.not_deep r.fact.u (fifth_by _ _ _ _ _ e r.fact.deep))
one_refusal start bs (too_deep a) (too_long b) r s =
    let e = halts_same bs r.fact.p r.fact.q s.fact.p s.fact.q r.fact.halts s.fact.halts in
    absurd (eighth_fifth s.fact.p s.fact.q s.fact.u s.fact.ds r.fact.u s.fact.long (fifth_by _ _ _ _ _ e r.fact.deep))
one_refusal start bs (too_deep a) (too_deep b) r s =
    let e = halts_same bs r.fact.p r.fact.q s.fact.p s.fact.q r.fact.halts s.fact.halts in
    ap too_deep (let k : a ≡ b = omega (arith, r.is, s.is, r.fact.here, s.fact.here, ap length e.0) in k)

-- The list of a core, entry by entry. Assumes nothing.
use Rattle.std.proofs.Common.{◌≡◌, ℕ, ◌<◌, ◌≤◌, true, false, cond, not, ◌||◌, eqb, Decides, List, [], ◌∷◌, ◌++◌, length, map, filter, Some, None, Option, Bor, sym, refl, ap, ◌∙◌, append_assoc, arith, length-append}
use Rattle.std.specs.Iterator.{AlwaysYields}
use Rattle.std.specs.List.{list_any}
use Rattle.std.proofs.lemmas.List.{append-nil}
use Rattle.std.proofs.lemmas.Bool.{cond-true, cond-false, eq-eqb, ne_eqb}
use Rattle.coretests.specs.declared.entry.Entry.{Entry}
use Rattle.plans.specs.declared.types.Placed.{Placed}
use Rattle.plans.specs.Plans.{on_core}

module _ (c : ℕ) where
  pub on-append : (ps qs : List Placed) → on_core c (ps ++ qs) ≡ on_core c ps ++ on_core c qs
  on-append [] qs = refl
  on-append (p ∷ ps) qs =
      let more = on-append ps qs in
      elim (eqb p.row.core c) as (λ b. cond b (p.entry ∷ on_core c (ps ++ qs)) (on_core c (ps ++ qs)) ≡ cond b (p.entry ∷ on_core c ps) (on_core c ps) ++ on_core c qs)
      [ true ↦ ap (λ l. p.entry ∷ l) more | false ↦ more ]

  pub on_long : (ps : List Placed) → length (on_core c ps) ≤ length ps
  on_long [] = omega arith
  on_long (p ∷ ps) =
      let more = on_long ps in
      elim (eqb p.row.core c) as (λ b. length (cond b (p.entry ∷ on_core c ps) (on_core c ps)) ≤ length (p ∷ ps)) [ true ↦ omega arith | false ↦ omega arith ]

  -- one more, on this core or on another
  pub on_push : (ps : List Placed) (p : Placed) → p.row.core ≡ c → on_core c (ps ++ p ∷ []) ≡ on_core c ps ++ p.entry ∷ []
  on_push ps p e = on-append ps (p ∷ []) ∙ ap (λ l. on_core c ps ++ l) (cond-true (eqb p.row.core c) (p.entry ∷ []) [] (eq-eqb p.row.core c e))

  pub on_other : (ps : List Placed) (p : Placed) → (p.row.core ≡ c → ⊥) → on_core c (ps ++ p ∷ []) ≡ on_core c ps
  on_other ps p n = on-append ps (p ∷ []) ∙ ap (λ l. on_core c ps ++ l) (cond-false (eqb p.row.core c) (p.entry ∷ []) [] (ne_eqb p.row.core c n)) ∙ append-nil (on_core c ps)

  -- a core with a task is not empty
  pub on_some : (p : Placed) (ps : List Placed) → p.row.core ≡ c → on_core c (p ∷ ps) ≡ [] → ⊥
  on_some p ps e none = let one = cond-true (eqb p.row.core c) (p.entry ∷ on_core c ps) (on_core c ps) (eq-eqb p.row.core c e) in cc

  pub on_skip : (p : Placed) (ps : List Placed) → (p.row.core ≡ c → ⊥) → on_core c (p ∷ ps) ≡ on_core c ps
  on_skip p ps n = cond-false (eqb p.row.core c) (p.entry ∷ on_core c ps) (on_core c ps) (ne_eqb p.row.core c n)

  -- the entries of those that are on the core
  pub on_filter : (ps : List Placed) → map (λ p. p.entry) (filter (λ p. eqb p.row.core c) ps) ≡ on_core c ps
  on_filter [] = refl
  on_filter (p ∷ ps) =
      let more = on_filter ps in
      elim (eqb p.row.core c) as (λ b. map (λ p. p.entry) (cond b (p ∷ filter (λ p. eqb p.row.core c) ps) (filter (λ p. eqb p.row.core c) ps)) ≡ cond b (p.entry ∷ on_core c ps) (on_core c ps))
      [ true ↦ ap (λ l. p.entry ∷ l) more | false ↦ more ]

  -- a core is idle where no task is on it
  pub idle_none : (ps : List Placed) → Decides (not (list_any (λ p. eqb p.row.core c) ps)) (on_core c ps ≡ [])
  idle_none [] = (λ e. refl, λ e. refl)
  idle_none (p ∷ ps) =
      let rest = idle_none ps in
      elim (eqb p.row.core c) as (λ b. Decides (not (b || list_any (λ p. eqb p.row.core c) ps)) (cond b (p.entry ∷ on_core c ps) (on_core c ps) ≡ [])) [ true ↦ (λ e. cc, λ e. cc) | false ↦ rest ]

-- a loop that pushes the entries of what an iterator gives: those that are left complete the whole
pub record Collecting {S : Type 0} (steps : S → Option (Bor Placed) → S → Type 0) (whole : List Entry) (done : List Entry) (at : S) : Type 0 where
  pub left : List Placed
  pub gives : AlwaysYields steps (λ p. p.now) at left
  pub rest : done ++ map (λ p. p.entry) left ≡ whole

module _ {S : Type 0} {steps : S → Option (Bor Placed) → S → Type 0} {whole : List Entry} (done : List Entry) (at next : S) where
  -- one that comes is the first of those that are left
  collecting_next : (left : List Placed) → AlwaysYields steps (λ p. p.now) at left → done ++ map (λ p. p.entry) left ≡ whole → (p : Bor Placed) → steps at (Some p) next
      → (length done < length whole) × Collecting steps whole (done ++ p.now.entry ∷ []) next
  collecting_next [] gives rest p step = absurd (gives p next step)
  collecting_next (q ∷ qs) gives rest p step =
      let first = gives.1 p next step in (
        omega (arith, ap length rest, length-append done (q.entry ∷ map (λ p. p.entry) qs)),
        record { left = qs; gives = first.1; rest = append_assoc done (p.now.entry ∷ []) (map (λ p. p.entry) qs) ∙ ap (λ x. done ++ x.entry ∷ map (λ p. p.entry) qs) first.0 ∙ rest },
      )

  pub collecting_room : Collecting steps whole done at → (p : Bor Placed) → steps at (Some p) next → length done < length whole
  collecting_room c p step = (collecting_next c.left c.gives c.rest p step).0

  pub collecting_more : Collecting steps whole done at → (p : Bor Placed) → steps at (Some p) next → Collecting steps whole (done ++ p.now.entry ∷ []) next
  collecting_more c p step = (collecting_next c.left c.gives c.rest p step).1

  pub collecting_end : Collecting steps whole done at → steps at None next → done ≡ whole
  collecting_end c step = go c.left c.gives c.rest
    where
      go : (left : List Placed) → AlwaysYields steps (λ p. p.now) at left → done ++ map (λ p. p.entry) left ≡ whole → done ≡ whole
      go [] gives rest = sym (append-nil done) ∙ rest
      go (q ∷ qs) gives rest = absurd (gives.0 next step)

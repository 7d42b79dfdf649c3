-- The table of the backward programme, point by point, and what the programme ends with. Assumes nothing.
use Rattle.std.proofs.Common.{◌≡◌, ℕ, ◌+◌, ◌<◌, ◌≤◌, Bool, true, false, cond, ◌⊎◌, List, [], ◌∷◌, length, get_or, drop, set, replicate, IfSome, Some, None, Option, sym, refl, ap, ◌∙◌, subst, inl, inr, arith}
use Rattle.std.specs.Array.{AllOfLen}
use Rattle.std.specs.List.{AllByRecursion}
use Rattle.std.proofs.ByRecursion.{All-drop}
use Rattle.std.proofs.lemmas.List.{drop_more, at_drop_all, length-drop, same_lists, get_or-replicate, get_or-set_same, get_or-set_other}
use Rattle.std.proofs.lemmas.Bool.Decides.{nat_tests}
use Rattle.std.proofs.lemmas.Bool.{cases_eq, cases_lt}
use Rattle.tasks.specs.Tasks.{Task}
use Rattle.tasks.specs.Cuts.{regions_from, regions, cut_cost}
use Rattle.cuts.specs.declared.types.Cuts.{Cuts}
use Rattle.cuts.specs.Allowed.{Within, within, LeastCuts}
use Rattle.cuts.specs.Best.{BestCuts}
use Rattle.cuts.specs.Dynamic.{cheaper_of, with_cut, uncut, best_from, best_at, best_cut_at, Known}
use Rattle.cuts.proofs.Ranges.{Ranges, in_blocks, block_after, cost_at_most}
use Rattle.cuts.proofs.Steps.{regions-start}
use Rattle.cuts.proofs.Choose.{Answer, best_chosen}

cheaper_assoc : (a b c : Option Cuts) → cheaper_of (cheaper_of a b) c ≡ cheaper_of a (cheaper_of b c)
cheaper_assoc None b c = refl
cheaper_assoc (Some x) None c = refl
cheaper_assoc (Some x) (Some y) None = grind (arith, nat_tests)
cheaper_assoc (Some x) (Some y) (Some z) = grind (arith, nat_tests)

-- a candidate that counts only under a test
under_test : (v : Bool) (found more : Option Cuts) → cond v (cheaper_of found more) found ≡ cheaper_of found (cond v more None)
under_test true found more = refl
under_test false None more = refl
under_test false (Some c) more = refl

-- one more point in the table
pub known_more : (limit : Option ℕ) (t : Task) (memo : List (Option Cuts)) (j : ℕ) (o : Option Cuts) → j < length memo → Known limit t memo (j + 1) → o ≡ best_cut_at limit t j → Known limit t (set memo j o) j
known_more limit t memo j o l known is e le lt =
    elim (cases_eq e j) [
      | inl same ↦ subst (λ (i : ℕ). get_or (set memo j o) i None ≡ best_cut_at limit t i) (sym same) (get_or-set_same memo j o None l ∙ is)
      | inr other ↦ get_or-set_other memo j e o None other ∙ known e (omega arith) lt
    ]

-- what the programme puts in, one point before `from`
pub cut_known : (limit : Option ℕ) (t : Task) (j from cost block : ℕ) (rest o : Option Cuts) → from ≡ j + 1 → cost ≡ get_or t.points j 0 → block ≡ get_or t.blocks from 0
    → rest ≡ best_at limit t (cost + block) from → o ≡ with_cut j cost rest → o ≡ best_cut_at limit t j
cut_known limit t j from cost block rest o at cost-is block-is is x = cc

-- no cuts are those that no flag says
pub default_uncut : (c : Cuts) → (c.cost ≡ 0) × AllOfLen (λ f. f ≡ false) c.flags 15 → c ≡ uncut
default_uncut c h =
    let flags : c.flags ≡ replicate 15 false = same_lists c.flags (replicate 15 false) h.1.long (λ k d lt. let in_flags : k < 15 = omega (arith, h.1.long) in h.1.at k d in_flags ∙ sym (get_or-replicate 15 k false d in_flags)) in
    λ i. record { cost = h.0 i; flags = flags i }

-- the element that a walk has come to
turn_at : {X : Type 0} (xs rest : List X) (x d : X) (e : ℕ) → drop e xs ≡ x ∷ rest → (e < length xs) × (get_or xs e d ≡ x) × (rest ≡ drop (e + 1) xs)
turn_at xs rest x d e is =
    elim (cases_lt e (length xs)) [
      | inl h ↦ let more = drop_more xs e d h in (h, cc, cc)
      | inr h ↦ absurd (omega (arith, ap length is, length-drop e xs))
    ]

module _ (limit : Option ℕ) (t : Task) (r : Ranges t.blocks t.points) where
  -- the region under way ends at point e, or goes on
  best_more : (n e : ℕ) → e < length t.points → best_at limit t n e ≡ cheaper_of (cond (within limit n) (best_cut_at limit t e) None) (best_at limit t (n + get_or t.blocks (e + 1) 0) (e + 1))
  best_more n e h = λ i. best_from limit n e (drop_more t.blocks (e + 1) 0 (in_blocks r e h) i) (drop_more t.points e 0 h i)

  -- it ends with the task
  best_end : (n e : ℕ) → length t.points ≤ e → best_at limit t n e ≡ cond (within limit n) (Some uncut) None
  best_end n e h = at_drop_all (λ bs. best_from limit n e bs (drop e t.points)) t.blocks (e + 1) (omega (arith, r.fewer))

  pub scan_more : (n e : ℕ) (v : Bool) (found next : Option Cuts) → e < length t.points → v ≡ within limit n → next ≡ cond v (cheaper_of found (best_cut_at limit t e)) found
      → cheaper_of next (best_at limit t (n + get_or t.blocks (e + 1) 0) (e + 1)) ≡ cheaper_of found (best_at limit t n e)
  scan_more n e v found next h is x =
      let rest = best_at limit t (n + get_or t.blocks (e + 1) 0) (e + 1) in
      let ending = best_cut_at limit t e in
      ap (λ (o : Option Cuts). cheaper_of o rest) (x ∙ under_test v found ending)
      ∙ cheaper_assoc found (cond v ending None) rest
      ∙ ap (λ (u : Bool). cheaper_of found (cheaper_of (cond u ending None) rest)) is
      ∙ ap (cheaper_of found) (sym (best_more n e h))

  -- one turn of the walk, which has come to point e with the block b after it
  pub scan_turn : (n e b : ℕ) (bs : List ℕ) (memo ms : List (Option Cuts)) (ending : Option Cuts) (v : Bool) (found next : Option Cuts)
      → drop (e + 1) t.blocks ≡ b ∷ bs → drop e memo ≡ ending ∷ ms → Known limit t memo e → v ≡ within limit n → next ≡ cond v (cheaper_of found ending) found
      → (b ≤ 1000000) × (bs ≡ drop (e + 1 + 1) t.blocks) × (ms ≡ drop (e + 1) memo) × (cheaper_of next (best_at limit t (n + b) (e + 1)) ≡ cheaper_of found (best_at limit t n e))
  scan_turn n e b bs memo ms ending v found next row table known h x =
      let here = turn_at t.blocks bs b 0 (e + 1) row in
      let there = turn_at memo ms ending None e table in
      let in_points : e < length t.points = omega (arith, here.0, r.fewer) in
      let best : ending ≡ best_cut_at limit t e = sym there.1 ∙ known e (omega arith) in_points in (
        omega (arith, here.1, block_after r e in_points),
        here.2,
        there.2,
        (λ i. cheaper_of next (best_at limit t (n + sym here.1 i) (e + 1))) ∙ scan_more n e v found next in_points h (x ∙ ap (λ o. cond v (cheaper_of found o) found) best),
      )

  -- the walk ends with the blocks or with the memo
  pub scan_past : (e : ℕ) (bs : List ℕ) (memo ms : List (Option Cuts)) → bs ≡ drop (e + 1) t.blocks → ms ≡ drop e memo → length memo ≡ 15 → (bs ≡ []) ⊎ (ms ≡ []) → length t.points ≤ e
  scan_past e bs memo ms row table full (inl none) = omega (arith, ap length row, ap length none, length-drop (e + 1) t.blocks, r.fewer)
  scan_past e bs memo ms row table full (inr none) = omega (arith, ap length table, ap length none, length-drop e memo, r.few, r.fewer)

  pub scan_end : (n e : ℕ) (v : Bool) (found next : Option Cuts) → length t.points ≤ e → v ≡ within limit n → next ≡ cond v (cheaper_of found (Some uncut)) found → next ≡ cheaper_of found (best_at limit t n e)
  scan_end n e v found next h is x =
      x ∙ under_test v found (Some uncut) ∙ ap (λ (u : Bool). cheaper_of found (cond u (Some uncut) None)) is ∙ ap (cheaper_of found) (sym (best_end n e h))

  best_answer : (n e : ℕ) → e ≤ length t.points → Answer limit n e (drop (e + 1) t.blocks) (drop e t.points) (best_at limit t n e)
  best_answer n e h =
      let bs = length-drop (e + 1) t.blocks in
      let ps = length-drop e t.points in
      best_chosen limit n e (drop (e + 1) t.blocks) (drop e t.points) (omega (arith, bs, ps, r.fewer)) (omega (arith, ps, r.few, r.fewer))

  pub best_bound : (n e : ℕ) (o : Option Cuts) → o ≡ best_at limit t n e → e ≤ length t.points → IfSome o (λ c. c.cost ≤ 15000000)
  best_bound n e o is h = go o (subst (Answer limit n e (drop (e + 1) t.blocks) (drop e t.points)) (sym is) (best_answer n e h))
    where
      go : (o : Option Cuts) → Answer limit n e (drop (e + 1) t.blocks) (drop e t.points) o → IfSome o (λ c. c.cost ≤ 15000000)
      go None a = tt
      go (Some c) a = omega (arith, a.cost_is, cost_at_most (drop e t.points) a.fs (All-drop (λ k. k ≤ 1000000) e t.points r.costs), length-drop e t.points, r.few, r.fewer)

  -- what the programme ends with is the choice
  pub best_cuts_lem : (bs : List ℕ) (o : Option Cuts) → bs ≡ t.blocks → o ≡ best_at limit t (get_or bs 0 0) 0 → BestCuts limit t o
  best_cuts_lem bs o blocks-are is =
      let whole = is ∙ ap (λ xs. best_at limit t (get_or xs 0 0) 0) blocks-are in
      go o (subst (Answer limit (get_or t.blocks 0 0) 0 (drop 1 t.blocks) t.points) (sym whole) (best_answer (get_or t.blocks 0 0) 0 (omega arith)))
    where
      start : (fs : List Bool) → regions_from (get_or t.blocks 0 0) (drop 1 t.blocks) t.points fs ≡ regions t fs
      start fs = regions-start t.blocks t.points fs r.some

      go : (o : Option Cuts) → Answer limit (get_or t.blocks 0 0) 0 (drop 1 t.blocks) t.points o → BestCuts limit t o
      go None a = λ cuts h. a cuts (subst (AllByRecursion (Within limit)) (sym (start cuts)) h.short)
      go (Some c) a =
          subst (λ (fs : List Bool). (c.cost ≡ cut_cost t fs) × LeastCuts limit t fs) (sym a.flags_are) (
            a.cost_is,
            record {
              allowed = record { at_points = a.at_points_lem; short = subst (AllByRecursion (Within limit)) (start a.fs) a.short };
              least = λ others h. a.least others (subst (AllByRecursion (Within limit)) (sym (start others)) h.short);
            },
          )

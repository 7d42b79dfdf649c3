-- A task line is kept with the first seventeen numbers of each list; a table takes it as if it had them all.
-- Assumes nothing.
use Rattle.std.proofs.Common.{◌≡◌, ℕ, ◌≤◌, Bool, true, false, cond, not, ltb, leb, length, take, Some, None, Ok, Err, Result, sym, refl, ap, ◌∙◌, arith}
use Rattle.std.proofs.lemmas.List.{length-take-le, take_all}
use Rattle.std.proofs.lemmas.Bool.Decides.{nat_tests}
use Rattle.span.specs.Spans.{span_of}
use Rattle.tasks.specs.declared.refusal.Refusal.{Refusal}
use Rattle.tasks.specs.declared.refusal.Refusal.TheVariants.{OutOfRange, IdTaken, TableFull, LongSpan}
use Rattle.tasks.specs.declared.table.Draft.{Draft}
use Rattle.tasks.specs.Tasks.{Task, Table, points_match, in_range, has_id, periods, inserted, with_task}
use Rattle.tasks.specs.Tables.{drafted, add_refusal, Adds}

-- the task with its lists cut off
abbrev pub shortened : Task → Task
shortened x = record { id = x.id; period = x.period; deadline = x.deadline; blocks = take 17 x.blocks; points = take 17 x.points }

same_short : (x : Task) → length x.blocks ≤ 17 → length x.points ≤ 17 → shortened x ≡ x
same_short x b p = rw (take_all 17 x.blocks b, take_all 17 x.points p)

many_blocks : (x : Task) → 17 ≤ length x.blocks → in_range x ≡ false
many_blocks x h = grind (arith, nat_tests)

many_points : (x : Task) → 17 ≤ length x.points → in_range x ≡ false
many_points x h = grind (arith, nat_tests)

points_match_lem : (x : Task) → in_range x ≡ true → points_match x ≡ true
points_match_lem x h = grind (arith, nat_tests)

pub whole : (x : Task) → in_range x ≡ true → shortened x ≡ x
whole x h = same_short x (grind (arith, nat_tests)) (grind (arith, nat_tests))

range_short : (x : Task) → in_range (shortened x) ≡ in_range x
range_short x = blocks (leb (length x.blocks) 17) refl
  where
    points : (b : Bool) → leb (length x.points) 17 ≡ b → leb (length x.blocks) 17 ≡ true → in_range (shortened x) ≡ in_range x
    points true e f = ap in_range (same_short x (grind (arith, nat_tests)) (grind (arith, nat_tests)))
    points false e f =
        let long : 17 ≤ length x.points = grind (arith, nat_tests) in
        many_points (shortened x) (omega (arith, length-take-le 17 x.points long)) ∙ sym (many_points x long)

    blocks : (b : Bool) → leb (length x.blocks) 17 ≡ b → in_range (shortened x) ≡ in_range x
    blocks true e = points (leb (length x.points) 17) refl e
    blocks false e =
        let long : 17 ≤ length x.blocks = grind (arith, nat_tests) in
        many_blocks (shortened x) (omega (arith, length-take-le 17 x.blocks long)) ∙ sym (many_blocks x long)

pub refused_short : (at : ℕ) (table : Table) (x : Task) → add_refusal at table (shortened x) ≡ add_refusal at table x
refused_short at table x = cases (in_range x) refl
  where
    cases : (b : Bool) → in_range x ≡ b → add_refusal at table (shortened x) ≡ add_refusal at table x
    cases true e = ap (add_refusal at table) (whole x e)
    cases false e = let short = range_short x in grind (arith, nat_tests)

granted_range : (at : ℕ) (table : Table) (x : Task) → add_refusal at table x ≡ None → in_range x ≡ true
granted_range at table x e = grind (arith, nat_tests)

-- what adding the shortened task did, adding the whole one does
pub adds_whole : (at : ℕ) (d e : Draft) (x : Task) (r : Result (Unit {0}) Refusal) → Adds at d (shortened x) r e → Adds at d x r e
adds_whole at d e x (Ok u) h =
    let none : add_refusal at (drafted d) x ≡ None = sym (refused_short at (drafted d) x) ∙ h.0 in
    (none, h.1 ∙ ap (with_task (drafted d)) (whole x (granted_range at (drafted d) x none)))
adds_whole at d e x (Err y) h = (sym (refused_short at (drafted d) x) ∙ h.0, h.1)

-- where nothing refuses a task, nothing does at another place
none_at : (a b c d : Bool) (m n : ℕ) → cond a (Some (OutOfRange m)) (cond b (Some (IdTaken m)) (cond c (Some (TableFull m)) (cond d (Some (LongSpan m)) None))) ≡ None → cond a (Some (OutOfRange n)) (cond b (Some (IdTaken n)) (cond c (Some (TableFull n)) (cond d (Some (LongSpan n)) None))) ≡ None
none_at false false false false m n e = refl
none_at a b c d m n e = cc

pub granted_anywhere : (m n : ℕ) (table : Table) (x : Task) → add_refusal m table x ≡ None → add_refusal n table x ≡ None
granted_anywhere m n table x e =
    none_at (not (in_range x)) (has_id x.id table.tasks) (leb 24 (length table.tasks)) (ltb 1000000 (span_of (periods (inserted x table.tasks)))) m n e

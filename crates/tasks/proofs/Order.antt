-- What one more task leaves of the order, the ids and the ranges. Assumes nothing.
use Rattle.std.proofs.Common.{◌≡◌, ℕ, suc, ◌+◌, ◌≤◌, Bool, true, false, cond, not, ◌||◌, eqb, leb, List, [], ◌∷◌, length, sym, refl, ap, ◌∙◌, arith}
use Rattle.std.specs.List.{insert as inserted_at, list_any, prefix_len}
use Rattle.std.proofs.lemmas.Bool.{and_parts, and_from}
use Rattle.std.proofs.lemmas.Bool.Decides.{nat_tests}
use Rattle.tasks.specs.declared.task.Task.{Task as Stored}
use Rattle.tasks.specs.Tasks.{Task, every, has_id, distinct, ordered_from, inserted}
use Rattle.tasks.specs.Stored.{task_of, tasks_of}

-- how many tasks stand at the front whose deadline is not later than d
abbrev pub not_later : ℕ → List Stored → ℕ
not_later d ts = prefix_len (λ t. leb t.deadline d) ts

pub place_le : (d : ℕ) (ts : List Stored) → not_later d ts ≤ length ts
place_le d [] = omega arith
place_le d (t ∷ ts) =
    let more = place_le d ts in
    elim (leb t.deadline d) as (λ b. cond b (1 + not_later d ts) 0 ≤ length (t ∷ ts)) [ true ↦ omega arith | false ↦ omega arith ]

pub has_stored : (n : ℕ) (ts : List Stored) → list_any (λ t. eqb t.id n) ts ≡ has_id n (tasks_of ts)
has_stored n [] = refl
has_stored n (t ∷ ts) = ap (λ b. eqb t.id n || b) (has_stored n ts)

-- put in at its place, a stored task stands where the rule has it
pub stored_inserted : (x : Stored) (ts : List Stored) → tasks_of (inserted_at ts (not_later x.deadline ts) x) ≡ inserted (task_of x) (tasks_of ts)
stored_inserted x [] = refl
stored_inserted x (t ∷ ts) =
    elim (leb t.deadline x.deadline) as (λ b. tasks_of (inserted_at (t ∷ ts) (cond b (1 + not_later x.deadline ts) 0) x) ≡ cond b (task_of t ∷ inserted (task_of x) (tasks_of ts)) (task_of x ∷ task_of t ∷ tasks_of ts)) [
      | true ↦ ap (λ n. tasks_of (inserted_at (t ∷ ts) n x)) {x = 1 + not_later x.deadline ts} {y = suc (not_later x.deadline ts)} (omega arith) ∙ ap (λ l. task_of t ∷ l) (stored_inserted x ts)
      | false ↦ refl
    ]

pub put_in : (x : Stored) (new : Task) (ts : List Stored) (i : ℕ) → task_of x ≡ new → i ≡ not_later new.deadline ts → tasks_of (inserted_at ts i x) ≡ inserted new (tasks_of ts)
put_in x new ts i is at = ap (λ n. tasks_of (inserted_at ts n x)) (at ∙ ap (λ (t : Task). not_later t.deadline ts) (sym is)) ∙ stored_inserted x ts ∙ ap (λ t. inserted t (tasks_of ts)) is

pub length_stored : (ts : List Stored) → length (tasks_of ts) ≡ length ts
length_stored [] = refl
length_stored (t ∷ ts) = ap suc (length_stored ts)

pub length_inserted : (x : Task) (ts : List Task) → length (inserted x ts) ≡ length ts + 1
length_inserted x [] = refl
length_inserted x (t ∷ ts) =
    let more = length_inserted x ts in
    elim (leb t.deadline x.deadline) as (λ b. length (cond b (t ∷ inserted x ts) (x ∷ t ∷ ts)) ≡ length (t ∷ ts) + 1) [ true ↦ omega arith | false ↦ omega arith ]

pub every_inserted : (test : Task → Bool) (x : Task) (ts : List Task) → test x ≡ true → every test ts ≡ true → every test (inserted x ts) ≡ true
every_inserted test x [] p h = and_from (test x) true p refl
every_inserted test x (t ∷ ts) p h =
    let hs = and_parts (test t) (every test ts) h in
    elim (leb t.deadline x.deadline) as (λ b. every test (cond b (t ∷ inserted x ts) (x ∷ t ∷ ts)) ≡ true)
    [ true ↦ and_from (test t) (every test (inserted x ts)) hs.0 (every_inserted test x ts p hs.1) | false ↦ and_from (test x) (every test (t ∷ ts)) p h ]

pub ordered-inserted : (d : ℕ) (x : Task) (ts : List Task) → leb d x.deadline ≡ true → ordered_from d ts ≡ true → ordered_from d (inserted x ts) ≡ true
ordered-inserted d x [] low h = grind (arith, nat_tests)
ordered-inserted d x (t ∷ ts) low h =
    let hs = and_parts (leb d t.deadline) (ordered_from t.deadline ts) h in
    let tail : leb t.deadline x.deadline ≡ true → ordered_from t.deadline (inserted x ts) ≡ true = λ e. ordered-inserted t.deadline x ts e hs.1 in
    elim (leb t.deadline x.deadline) as (λ b. leb t.deadline x.deadline ≡ b → ordered_from d (cond b (t ∷ inserted x ts) (x ∷ t ∷ ts)) ≡ true)
    [ true ↦ (λ e. let k = tail e in let f = hs.0 in grind (arith, nat_tests)) | false ↦ (λ e. let f = hs.1 in grind (arith, nat_tests)) ] refl

has_inserted : (n : ℕ) (x : Task) (ts : List Task) → has_id n (inserted x ts) ≡ (eqb x.id n || has_id n ts)
has_inserted n x [] = refl
has_inserted n x (t ∷ ts) =
    let more = has_inserted n x ts in
    elim (leb t.deadline x.deadline) as (λ b. has_id n (cond b (t ∷ inserted x ts) (x ∷ t ∷ ts)) ≡ (eqb x.id n || has_id n (t ∷ ts)))
    [ true ↦ grind (arith, nat_tests) | false ↦ refl ]

pub distinct-inserted : (x : Task) (ts : List Task) → distinct ts ≡ true → has_id x.id ts ≡ false → distinct (inserted x ts) ≡ true
distinct-inserted x [] h new = refl
distinct-inserted x (t ∷ ts) h new =
    let hs = and_parts (not (has_id t.id ts)) (distinct ts) h in
    let is = has_inserted t.id x ts in
    let rest : has_id x.id ts ≡ false = grind (arith, nat_tests) in
    let more = distinct-inserted x ts hs.1 rest in
    elim (leb t.deadline x.deadline) as (λ b. distinct (cond b (t ∷ inserted x ts) (x ∷ t ∷ ts)) ≡ true)
    [ true ↦ (let f = hs.0 in grind (arith, nat_tests)) | false ↦ grind (arith, nat_tests) ]

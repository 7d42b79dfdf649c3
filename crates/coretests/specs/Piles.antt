-- A layer over what is no laxer than EDF is no laxer than EDF. Assumes nothing.
use Rattle.std.specs.Prelude.{◌≡◌, ℕ, true, false, List, [], ◌∷◌, Some, None, Option, refl}
use Rattle.std.proofs.Common.{⊎_elim, arith}
use Rattle.std.proofs.lemmas.Bool.{cases_Bool}
use Rattle.coretests.specs.declared.entry.Entry.{Entry}
use Rattle.coretests.specs.Limits.{AtMost}
use Rattle.coretests.specs.Entries.{sound, Lighter}
use Rattle.coretests.specs.Edf.{EdfAccepts, least_slack, edf_limit}
use Rattle.coretests.specs.Layers.{capped, raised, lessened, handed_over}
use Rattle.coretests.specs.Bounds.{at_most_zero}
use Rattle.coretests.specs.Guard.{guard_lighter}
use Rattle.coretests.specs.EdfLaws.{accepts_lighter, least_slack_lighter}
use Rattle.coretests.specs.Handovers.{handed_sound, handed_unsound}

pub at_most_trans : (a b c : Option ℕ) → AtMost a b → AtMost b c → AtMost a c
at_most_trans a b None h k = tt
at_most_trans a None (Some c) h k = absurd k
at_most_trans None (Some b) (Some c) h k = absurd h
at_most_trans (Some a) (Some b) (Some c) h k = omega arith

capped_at_most : (c : ℕ) (o : Option ℕ) → AtMost (capped c o) o
capped_at_most c None = tt
capped_at_most c (Some a) = omega arith

lessened_at_most : (h : ℕ) (o : Option ℕ) → AtMost (lessened h o) o
lessened_at_most h None = tt
lessened_at_most h (Some a) = omega arith

raised_heavier : (h : ℕ) (xs : List Entry) → Lighter (raised h xs) xs
raised_heavier h [] = tt
raised_heavier h (x ∷ xs) = (record { period = refl; deadline = refl; load = omega arith }, raised_heavier h xs)

pub capped_no_longer : (c : ℕ) (o edf : Option ℕ) → AtMost o edf → AtMost (capped c o) edf
capped_no_longer c o edf h = at_most_trans (capped c o) o edf (capped_at_most c o) h

pub raised_accepts : (h : ℕ) (xs : List Entry) → EdfAccepts (raised h xs) → EdfAccepts xs
raised_accepts h xs = accepts_lighter (raised h xs) xs (raised_heavier h xs)

edf_raised : (h : ℕ) (xs : List Entry) (d : ℕ) → AtMost (edf_limit (raised h xs) d) (edf_limit xs d)
edf_raised h xs d =
    let ys = raised h xs in
    let l = raised_heavier h xs in
    guard_lighter ys xs d (least_slack ys d) (least_slack xs d) l (least_slack_lighter ys xs d l)

pub handed_no_longer : (h : ℕ) (below : List Entry → Option ℕ) (d : ℕ) → ((ys : List Entry) → AtMost (below ys) (edf_limit ys d)) → (xs : List Entry)
    → AtMost (handed_over h below xs) (edf_limit xs d)
handed_no_longer h below d law xs =
    let ys = raised h xs in
    let raised_limit : AtMost (below ys) (edf_limit xs d) = at_most_trans (below ys) (edf_limit ys d) (edf_limit xs d) (law ys) (edf_raised h xs d) in
    ⊎_elim
    (λ (s : sound xs ≡ true). rw (handed_sound h below xs s) (at_most_trans (lessened h (below ys)) (below ys) (edf_limit xs d) (lessened_at_most h (below ys)) raised_limit))
    (λ (s : sound xs ≡ false). rw (handed_unsound h below xs s) (at_most_zero (edf_limit xs d)))
    (cases_Bool (sound xs))

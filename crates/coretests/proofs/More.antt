-- More facts on limits, sound lists, raised lists and tolerances. Assumes nothing.
use Rattle.std.proofs.Common.{◌≡◌, ℕ, zero, suc, ◌+◌, ◌-◌, ◌<◌, ◌≤◌, true, false, ◌&&◌, leb, List, [], ◌∷◌, ◌++◌, length, get_or, take, drop, set, Some, None, Option, sym, refl, ap, ◌∙◌, ⊎_elim, arith}
use Rattle.std.specs.Option.{SomeIff}
use Rattle.std.proofs.lemmas.Bool.{and_left, and_right, le-leb, lt-leb, cases_lt}
use Rattle.std.proofs.lemmas.List.{at_drop_more, take_more_set, map_more}
use Rattle.coretests.specs.declared.entry.Entry.{Entry}
use Rattle.coretests.specs.Limits.{lesser, least}
use Rattle.coretests.specs.Entries.{in_range, ordered_from, sound}
use Rattle.coretests.specs.FixedPriority.{tolerance, one_more}
use Rattle.coretests.specs.Layers.{raise, raised, handed_over}
use Rattle.coretests.specs.Handovers.{handed_is}
use Rattle.coretests.specs.Soundness.{blank}

pub lesser-none : (o : Option ℕ) → lesser o None ≡ o
lesser-none None = refl
lesser-none (Some a) = refl

pub lesser_zero : (o : Option ℕ) → lesser o (Some 0) ≡ Some 0
lesser_zero None = refl
lesser_zero (Some a) = ap Some (omega arith)

pub least_zero : (f : ℕ → ℕ) (start count t : ℕ) → start ≤ t → t < start + count → f t ≡ 0 → least f start count ≡ Some 0
least_zero f start zero t a b h = absurd (omega arith)
least_zero f start (suc count) t a b h =
    ⊎_elim
    (λ (l : t < start + count). ap (λ o. lesser o (Some (f (start + count)))) (least_zero f start count t a l h) ∙ ap Some (omega arith))
    (λ (l : start + count ≤ t).
    let here : f (start + count) ≡ 0 = ap f (omega arith) ∙ h in
    ap (λ n. lesser (least f start count) (Some n)) here ∙ lesser_zero (least f start count))
    (cases_lt t (start + count))

-- one entry of an ordered list after another
pub ordered_pass : (d : ℕ) (xs : List Entry) (i : ℕ) → i < length xs → in_range (get_or xs i blank) ≡ true → d ≤ (get_or xs i blank).deadline
    → ordered_from (get_or xs i blank).deadline (drop (i + 1) xs) ≡ ordered_from d (drop i xs)
ordered_pass d xs i h f l =
    sym (at_drop_more (ordered_from d) xs i blank h
    ∙ ap (λ b. b && (leb d (get_or xs i blank).deadline && ordered_from (get_or xs i blank).deadline (drop (i + 1) xs))) f
    ∙ ap (λ b. b && ordered_from (get_or xs i blank).deadline (drop (i + 1) xs)) (le-leb _ _ l))

pub ordered_out : (d : ℕ) (xs : List Entry) (i : ℕ) → i < length xs → in_range (get_or xs i blank) ≡ false → ordered_from d (drop i xs) ≡ false
ordered_out d xs i h f = at_drop_more (ordered_from d) xs i blank h ∙ and_left _ _ f

pub ordered_early : (d : ℕ) (xs : List Entry) (i : ℕ) → i < length xs → (get_or xs i blank).deadline < d → ordered_from d (drop i xs) ≡ false
ordered_early d xs i h l = at_drop_more (ordered_from d) xs i blank h ∙ and_right _ _ (and_left _ _ (lt-leb _ _ l))

-- a list raised in the front of a longer one
pub raised_next : (h : ℕ) (xs all : List Entry) (i : ℕ) → i < length xs → i < length all → take i all ≡ raised h (take i xs)
    → take (i + 1) (set all i (raise h (get_or xs i blank))) ≡ raised h (take (i + 1) xs)
raised_next h xs all i a b e =
    take_more_set all i (raise h (get_or xs i blank)) b ∙ ap (λ ys. ys ++ (raise h (get_or xs i blank) ∷ [])) e ∙ sym (map_more (raise h) xs i blank a)

pub handed_some : (h : ℕ) (below : List Entry → Option ℕ) (xs all : List Entry) (n a : ℕ) → sound xs ≡ true → take (length xs) all ≡ raised h xs → Some a ≡ below (take (length xs - 0) all) → n ≡ a - h
    → Some n ≡ handed_over h below xs
handed_some h below xs all n a s e is less =
    let whole : take (length xs - 0) all ≡ take (length xs) all = ap (λ n. take n all) (omega arith) in
    ap Some less ∙ handed_is h below xs xs (take (length xs - 0) all) (Some a) s refl (whole ∙ e) is

pub front_tolerance : (xs : List Entry) (i : ℕ) (o : Option ℕ) → o ≡ tolerance (take (i - 0) xs) (get_or xs i blank) → o ≡ tolerance (take i xs) (get_or xs i blank)
front_tolerance xs i o is = is ∙ ap (λ n. tolerance (take n xs) (get_or xs i blank)) (omega arith)

-- what is one less than one more
pub one_less_is : (r o : Option ℕ) (n : ℕ) → n ≡ one_more o → SomeIff r (1 ≤ n) (n - 1) → r ≡ o
one_less_is None None n is h = refl
one_less_is None (Some b) n is h = absurd (h (omega arith))
one_less_is (Some a) None n is h = absurd (omega (arith, h.0))
one_less_is (Some a) (Some b) n is h = ap Some (omega (arith, h.1))

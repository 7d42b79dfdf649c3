-- Fixed priorities keep the laws of every core test, and the loops over the entries. Assumes nothing.
use Rattle.std.specs.Prelude.{◌≡◌, ℕ, ◌+◌, ◌<◌, ◌≤◌, true, ◌&&◌, List, [], ◌∷◌, ◌++◌, length, take, drop, is_some, Some, None, Option, refl}
use Rattle.std.proofs.Common.{sym, ap, ◌∙◌, arith}
use Rattle.std.specs.Option.{unwrap_or}
use Rattle.std.proofs.lemmas.List.{at_drop_more, take_more}
use Rattle.std.proofs.lemmas.List.Elements.{AllZip-push}
use Rattle.std.proofs.lemmas.Bool.{and_parts, and_from, leb-true, le-leb}
use Rattle.coretests.specs.declared.entry.Entry.{Entry}
use Rattle.coretests.specs.Limits.{lesser, AtMost}
use Rattle.coretests.specs.Entries.{LighterEntry, Lighter}
use Rattle.coretests.specs.FixedPriority.{tolerance, one_more, all_tolerate, least_tolerance, FixedAccepts}
use Rattle.coretests.specs.Bounds.{lesser_mono}
use Rattle.coretests.specs.Soundness.{blank, sound_lighter, sound_front}
use Rattle.coretests.specs.Tolerances.{tolerance_of, some_is, value_is, tolerance_lighter}

some_lighter : (ps qs : List Entry) (x y : Entry) → Lighter ps qs → LighterEntry x y → is_some (tolerance ps x) ≡ true → is_some (tolerance qs y) ≡ true
some_lighter ps qs x y l e h =
    let m : 1 ≤ one_more (tolerance ps x) = leb-true _ _ (sym (some_is (tolerance ps x)) ∙ h) in
    some_is (tolerance qs y) ∙ le-leb 1 (one_more (tolerance qs y)) (omega (arith, tolerance_lighter ps qs x y l e))

all_tolerate_lighter : (ps qs xs ys : List Entry) → Lighter ps qs → Lighter xs ys → all_tolerate ps xs ≡ true → all_tolerate qs ys ≡ true
all_tolerate_lighter ps qs [] [] p e h = refl
all_tolerate_lighter ps qs [] (y ∷ ys) p e h = absurd e
all_tolerate_lighter ps qs (x ∷ xs) [] p e h = absurd e
all_tolerate_lighter ps qs (x ∷ xs) (y ∷ ys) p e h =
    let a = and_parts (is_some (tolerance ps x)) _ h in
    and_from _ _ (some_lighter ps qs x y p e.0 a.0)
    (all_tolerate_lighter (ps ++ (x ∷ [])) (qs ++ (y ∷ [])) xs ys (AllZip-push LighterEntry ps qs x y p e.0) e.1 a.1)

pub least_lighter : (ps qs xs ys : List Entry) → Lighter ps qs → Lighter xs ys → AtMost (least_tolerance ps xs) (least_tolerance qs ys)
least_lighter ps qs [] [] p e = tt
least_lighter ps qs [] (y ∷ ys) p e = absurd e
least_lighter ps qs (x ∷ xs) [] p e = absurd e
least_lighter ps qs (x ∷ xs) (y ∷ ys) p e =
    let first : unwrap_or (tolerance ps x) 0 ≤ unwrap_or (tolerance qs y) 0 =
    omega (arith, tolerance_lighter ps qs x y p e.0, value_is (tolerance ps x), value_is (tolerance qs y)) in
    lesser_mono (Some (unwrap_or (tolerance ps x) 0)) (least_tolerance (ps ++ (x ∷ [])) xs) (Some (unwrap_or (tolerance qs y) 0)) (least_tolerance (qs ++ (y ∷ [])) ys) first
    (least_lighter (ps ++ (x ∷ [])) (qs ++ (y ∷ [])) xs ys (AllZip-push LighterEntry ps qs x y p e.0) e.1)

all_tolerate_front : (ps xs ys : List Entry) → all_tolerate ps (xs ++ ys) ≡ true → all_tolerate ps xs ≡ true
all_tolerate_front ps [] ys h = refl
all_tolerate_front ps (x ∷ xs) ys h =
    let a = and_parts (is_some (tolerance ps x)) _ h in
    and_from _ _ a.0 (all_tolerate_front (ps ++ (x ∷ [])) xs ys a.1)

pub fixed_lighter : (xs ys : List Entry) → Lighter xs ys → FixedAccepts xs → FixedAccepts ys
fixed_lighter xs ys e m = (sound_lighter xs ys e m.0, all_tolerate_lighter [] [] xs ys tt e m.1)

pub fixed_front : (xs : List Entry) (x : Entry) → FixedAccepts (xs ++ (x ∷ [])) → FixedAccepts xs
fixed_front xs x m = (sound_front xs (x ∷ []) m.0, all_tolerate_front [] xs (x ∷ []) m.1)

-- one entry more
pub all_tolerate_next : (xs : List Entry) (i : ℕ) → i < length xs
    → all_tolerate (take i xs) (drop i xs) ≡ (is_some (tolerance_of xs i) && all_tolerate (take (i + 1) xs) (drop (i + 1) xs))
all_tolerate_next xs i h =
    at_drop_more (all_tolerate (take i xs)) xs i blank h
    ∙ ap (λ ps. is_some (tolerance_of xs i) && all_tolerate ps (drop (i + 1) xs)) (sym (take_more xs i blank h))

pub least_next : (xs : List Entry) (i : ℕ) → i < length xs
    → least_tolerance (take i xs) (drop i xs) ≡ lesser (Some (unwrap_or (tolerance_of xs i) 0)) (least_tolerance (take (i + 1) xs) (drop (i + 1) xs))
least_next xs i h =
    at_drop_more (least_tolerance (take i xs)) xs i blank h
    ∙ ap (λ ps. lesser (Some (unwrap_or (tolerance_of xs i) 0)) (least_tolerance ps (drop (i + 1) xs))) (sym (take_more xs i blank h))

pub lesser_assoc : (a b c : Option ℕ) → lesser (lesser a b) c ≡ lesser a (lesser b c)
lesser_assoc None b c = refl
lesser_assoc (Some a) None c = refl
lesser_assoc (Some a) (Some b) None = refl
lesser_assoc (Some a) (Some b) (Some c) = ap Some (omega arith)

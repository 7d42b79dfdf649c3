-- Answers that are written one after the other. Assumes nothing.
use Rattle.std.proofs.Common.{List, ℕ, [], ◌∷◌, ◌++◌, codes, Some, None, Option, sym, ap, ◌∙◌, append_assoc}
use Rattle.std.proofs.lemmas.List.{flat_map_more}
use Rattle.std.specs.List.{AllByRecursion}
use Rattle.std.specs.Io.KnownBytes.{Appends}
use Rattle.console.specs.Answers.{named, NamedAnswers}

pub appends_more : (a b c : Option (List ℕ)) (xs ys : List ℕ) → Appends a b xs → Appends b c ys → Appends a c (xs ++ ys)
appends_more None b c xs ys h k = tt
appends_more (Some x) None c xs ys h k = absurd h
appends_more (Some x) (Some y) None xs ys h k = absurd k
appends_more (Some x) (Some y) (Some z) xs ys h k = k ∙ ap (λ l. l ++ ys) h ∙ append_assoc x xs ys

all_more : {X : Type 0} (P : X → Type 0) (xs : List X) (x : X) → AllByRecursion P xs → P x → AllByRecursion P (xs ++ x ∷ [])
all_more P [] x h p = (p, tt)
all_more P (y ∷ ys) x h p = (h.0, all_more P ys x h.1 p)

-- one more name and its answer
pub named_more : (Given : List ℕ → Type 0) (bs name text : List ℕ) → NamedAnswers Given bs → Given text → NamedAnswers Given (bs ++ ((name ++ codes ": ") ++ text))
named_more Given bs name text told is = record {
  lines = told.lines ++ (name, text) ∷ [];
  given = all_more (λ (line : List ℕ × List ℕ). Given line.1) told.lines (name, text) told.given is;
  all = sym (flat_map_more named [] told.lines (name, text)) ∙ ap (λ l. l ++ ((name ++ codes ": ") ++ text)) told.all;
}

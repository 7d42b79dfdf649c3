-- A handover raises each load. Assumes nothing.
use Rattle.std.specs.Prelude.{◌≡◌, ℕ, true, false, cond, List, [], ◌∷◌, ◌++◌, Some, None, Option}
use Rattle.std.proofs.Common.{sym, ◌∙◌, ⊎_elim, arith}
use Rattle.std.proofs.Math.Path.{ap}
use Rattle.std.proofs.lemmas.Bool.{cases_Bool}
use Rattle.std.proofs.lemmas.List.{map_push}
use Rattle.coretests.specs.declared.entry.Entry.{Entry}
use Rattle.coretests.specs.Limits.{AtMost}
use Rattle.coretests.specs.Entries.{sound, Lighter}
use Rattle.coretests.specs.Layers.{raise, raised, lessened, handed_over}
use Rattle.coretests.specs.Bounds.{at_most_zero}
use Rattle.coretests.specs.Soundness.{sound_lighter}

pub lessened_mono : (h : ℕ) (a b : Option ℕ) → AtMost a b → AtMost (lessened h a) (lessened h b)
lessened_mono h None None k = tt
lessened_mono h None (Some b) k = absurd k
lessened_mono h (Some a) None k = tt
lessened_mono h (Some a) (Some b) k = omega arith

pub lessened_zero : (h : ℕ) → lessened h (Some 0) ≡ Some 0
lessened_zero h = ap Some (omega arith)

pub raised_lighter : (h : ℕ) (xs ys : List Entry) → Lighter xs ys → Lighter (raised h xs) (raised h ys)
raised_lighter h [] [] e = tt
raised_lighter h [] (y ∷ ys) e = absurd e
raised_lighter h (x ∷ xs) [] e = absurd e
raised_lighter h (x ∷ xs) (y ∷ ys) e =
    (record { period = e.0.period; deadline = e.0.deadline; load = omega (arith, e.0.load) }, raised_lighter h xs ys e.1)

pub raised_push : (h : ℕ) (xs : List Entry) (x : Entry) → raised h (xs ++ (x ∷ [])) ≡ raised h xs ++ (raise h x ∷ [])
raised_push h xs x = map_push (raise h) xs x

module _ (h : ℕ) (below : List Entry → Option ℕ) where
  pub handed_unsound : (xs : List Entry) → sound xs ≡ false → handed_over h below xs ≡ Some 0
  unfolding handed_over
  handed_unsound xs s = ap (λ b. cond b (lessened h (below (raised h xs))) (Some 0)) s

  pub handed_sound : (xs : List Entry) → sound xs ≡ true → handed_over h below xs ≡ lessened h (below (raised h xs))
  unfolding handed_over
  handed_sound xs s = ap (λ b. cond b (lessened h (below (raised h xs))) (Some 0)) s

  -- what the test below says of the raised list
  pub handed_is : (xs ys zs : List Entry) (o : Option ℕ) → sound ys ≡ true → ys ≡ xs → zs ≡ raised h ys → o ≡ below zs → lessened h o ≡ handed_over h below xs
  handed_is xs ys zs o s e r is =
      ap (lessened h) (is ∙ ap below r) ∙ sym (handed_sound ys s) ∙ ap (handed_over h below) e

  pub handed_zero : (xs : List Entry) → below (raised h xs) ≡ Some 0 → handed_over h below xs ≡ Some 0
  handed_zero xs e =
      ⊎_elim
      (λ (s : sound xs ≡ true). handed_sound xs s ∙ ap (lessened h) e ∙ lessened_zero h)
      (λ (s : sound xs ≡ false). handed_unsound xs s)
      (cases_Bool (sound xs))

  pub handed_lighter : ((us vs : List Entry) → Lighter us vs → AtMost (below us) (below vs)) → (xs ys : List Entry) → Lighter xs ys
      → AtMost (handed_over h below xs) (handed_over h below ys)
  handed_lighter law xs ys e =
      ⊎_elim
      (λ (s : sound xs ≡ true).
      rw (handed_sound xs s, handed_sound ys (sound_lighter xs ys e s))
      (lessened_mono h (below (raised h xs)) (below (raised h ys)) (law (raised h xs) (raised h ys) (raised_lighter h xs ys e))))
      (λ (s : sound xs ≡ false). rw (handed_unsound xs s) (at_most_zero (handed_over h below ys)))
      (cases_Bool (sound xs))

-- What an event does to a job, the outside reading does to the unfinished jobs of its place. Assumes nothing.
use Rattle.std.proofs.Common.{◌≡◌, ℕ, suc, ◌-◌, ◌<◌, ◌≤◌, Bool, true, false, cond, ◌&&◌, ltb, leb, List, [], ◌∷◌, ◌++◌, length, sym, refl, ap, ◌∙◌, subst, inl, inr, arith}
use Rattle.std.proofs.lemmas.Bool.{cond-true, cond-false, cases_Bool, le-leb, lt-leb, leb-true, leb-false, both_ways}
use Rattle.bounded.specs.Lists.{list_of}
use Rattle.machine.specs.declared.types.Assigned.{Assigned}
use Rattle.machine.specs.declared.types.Job.{Job}
use Rattle.machine.specs.declared.types.Job.TheVariants.{Idle, Ready, Inside}
use Rattle.machine.specs.declared.types.Event.TheVariants.{Release, Enter, Tick, Early}
use Rattle.machine.specs.Slots.{region_at, after_region, step_job, is_idle, is_inside}
use Rattle.machine.specs.Watch.{Unfinished, unfinished, each_job, finished, stood_once, Timely}
use Rattle.machine.specs.Agreement.{Agree}
use Rattle.machine.proofs.Weight.{Well}
use Rattle.machine.proofs.Calls.{InTime}

abbrev View : Type 0
View = List Unfinished

after_agrees : (t : Assigned) (k n due : ℕ) → Agree t (after_region t k) due (finished t (unfinished k n due) ++ [])
after_agrees t k n due = go (ltb (suc k) (length (list_of t.regions)))
  where
    go : (b : Bool) → Agree t (cond b (Ready (suc k)) Idle) due (cond b (unfinished (suc k) 0 due ∷ []) [] ++ [])
    go true = refl
    go false = refl

-- a release of an idle job
pub release_agrees : (t : Assigned) (j : Job) (due new : ℕ) (v : View) → is_idle j ≡ true → Agree t j due v → Agree t (step_job t j Release) new (v ++ unfinished 0 0 new ∷ [])
release_agrees t Idle due new v e a = ap (λ (y : View). y ++ unfinished 0 0 new ∷ []) a
release_agrees t (Ready k) due new v e a = absurd (both_ways false refl e)
release_agrees t (Inside k left) due new v e a = absurd (both_ways false refl e)

pub release_out : (t : Assigned) (j : Job) → is_inside (step_job t j Release) ≡ true → is_inside j ≡ true
release_out t Idle e = e
release_out t (Ready k) e = e
release_out t (Inside k left) e = e

-- an early on the job's core, if b; x says that the place stood there in the last row
pub early_agrees : (b x : Bool) (t : Assigned) (j : Job) (due : ℕ) (v : View) → (b ≡ true → x ≡ is_inside j) → Agree t j due v → Agree t (cond b (step_job t j Early) j) due (cond (b && x) (each_job (finished t) v) v)
early_agrees false x t j due v h a = a
early_agrees true true t Idle due v h a = ap (each_job (finished t)) a
early_agrees true true t (Ready k) due v h a = absurd (both_ways true (h refl) refl)
early_agrees true true t (Inside k left) due v h a = subst (λ (y : View). Agree t (after_region t k) due (each_job (finished t) y)) (sym a) (after_agrees t k (region_at t k - left) due)
early_agrees true false t Idle due v h a = a
early_agrees true false t (Ready k) due v h a = a
early_agrees true false t (Inside k left) due v h a = absurd (both_ways false refl (h refl))

pub early_out : (b : Bool) (t : Assigned) (j : Job) → is_inside (cond b (step_job t j Early) j) ≡ true → is_inside j ≡ true
early_out true t Idle e = e
early_out true t (Ready k) e = e
early_out true t (Inside k left) e = refl
early_out false t j e = e

-- entering a region is not seen
pub enter_agrees : (t : Assigned) (j : Job) (due : ℕ) (v : View) → Agree t j due v → Agree t (step_job t j Enter) due v
enter_agrees t Idle due v a = a
enter_agrees t (Ready k) due v a = let z : 0 ≡ region_at t k - region_at t k = omega arith in a ∙ ap (λ (n : ℕ). unfinished k n due ∷ []) z
enter_agrees t (Inside k left) due v a = a

-- a tick; x says that the place stands in its row
pub tick_agrees : (now : ℕ) (t : Assigned) (j : Job) (due : ℕ) (v : View) (x : Bool) → x ≡ is_inside j → Well 0 now t j due → Agree t j due v → Agree t (step_job t j Tick) due (cond x (each_job (stood_once t) v) v)
tick_agrees now t Idle due v x e w a = cond-false x (each_job (stood_once t) v) v e ∙ a
tick_agrees now t (Ready k) due v x e w a = cond-false x (each_job (stood_once t) v) v e ∙ a
tick_agrees now t (Inside k left) due v x e w a =
    let stood : ℕ = region_at t k - left in
    let u : Unfinished = unfinished k stood due in
    let more : View = unfinished k (suc stood) due ∷ [] in
    let q : cond x (each_job (stood_once t) v) v ≡ stood_once t u ++ [] = cond-true x (each_job (stood_once t) v) v e ∙ ap (each_job (stood_once t)) a in
    subst (λ (y : View). Agree t (step_job t (Inside k left) Tick) due y) (sym q) (elim (cases_Bool (leb left 1)) [
      | inl l ↦
          let m : left ≤ 1 = leb-true left 1 l in
          let f : leb (region_at t k) (suc stood) ≡ true = le-leb _ _ (omega arith) in
          subst (λ (i : Job). Agree t i due (stood_once t u ++ [])) (sym (cond-true (leb left 1) (after_region t k) (Inside k (left - 1)) l))
          (subst (λ (y : View). Agree t (after_region t k) due (y ++ [])) (sym (cond-true (leb (region_at t k) (suc stood)) (finished t u) more f)) (after_agrees t k stood due))
      | inr l ↦
          let m : 1 < left = leb-false left 1 l in
          let f : leb (region_at t k) (suc stood) ≡ false = lt-leb _ _ (omega (arith, w.2)) in
          let n : suc stood ≡ region_at t k - (left - 1) = omega (arith, w.2) in
          subst (λ (i : Job). Agree t i due (stood_once t u ++ [])) (sym (cond-false (leb left 1) (after_region t k) (Inside k (left - 1)) l))
          (ap (λ (y : View). y ++ []) (cond-false (leb (region_at t k) (suc stood)) (finished t u) more f) ∙ ap (λ (n : ℕ). unfinished k n due ∷ []) n)
    ])

pub tick_out : (t : Assigned) (j : Job) → is_inside (step_job t j Tick) ≡ true → is_inside j ≡ true
tick_out t Idle e = e
tick_out t (Ready k) e = e
tick_out t (Inside k left) e = refl

-- a job that is not at its deadline is read as such
pub timely : (now : ℕ) (t : Assigned) (j : Job) (due : ℕ) (v : View) → Agree t j due v → InTime now j due → Timely now v
timely now t Idle due v a h = subst (Timely now) (sym a) tt
timely now t (Ready k) due v a h = subst (Timely now) (sym a) (h, tt)
timely now t (Inside k left) due v a h = subst (Timely now) (sym a) (h, tt)

use Rattle.std.proofs.Common.{◌≤◌, ◌<◌, [], ◌∷◌, ◌++◌, length, sym, ap, ◌∙◌, subst, inr, arith, length-append}
use Rattle.std.proofs.lemmas.Grind.{common_steps}
use Rattle.std.proofs.lemmas.Bool.{false≢true}
use Rattle.bounded.specs.Lists.{list_of}
use Rattle.tasks.specs.Stored.{task_of}
use Rattle.coretests.specs.Soundness.{unsound_many}
use Rattle.cuts.specs.Allowed.{LeastCuts}
use Rattle.plans.specs.Plans.{place, on_core}
use Rattle.optimality.specs.Beginnings.{row}
use Rattle.planning.specs.Walk.{PutWell}
use Rattle.planning.proofs.placing.put.Goals as goal

-- a list that has no room for the entry is full, and with the entry it is not sound
pub returns-in_err-ok : goal.returns-in_err-ok
returns-in_err-ok g c =
    let x = c.args.test.now in
    let accepts = g.C.CoreTest.accepts x in
    let limit = g.C.CoreTest.limit x in
    let before = list_of c.args.before.now in
    let t = task_of c.args.task.now in
    let list = on_core c.args.core before in
    let items = c.on_core-list.ensures.items ∙ ap (on_core c.args.core) c.as_slice.ensures.value in
    let full : length (list_of c.on_core-list.result) < 24 → ⊥ = λ room. grind (arith, common_steps, c.in_err-ok.was, c.ok.ensures.variant, c.push.ensures.variant) in
    let long : 24 ≤ length list = omega (arith, full, ap length items) in
    let cuts = c.in_ok-best.best.flags in
    let longest = c.longest-longest.ensures ∙ ap (λ l. limit l t.deadline) (c.as_slice-2.ensures.value ∙ items) in
    subst (PutWell accepts limit c.args.weight before t c.args.core) (sym c.from_residual-in_err-ok.ensures) (λ table. inr (
      cuts,
      subst (λ o. LeastCuts o t cuts) longest c.in_ok-best.ensures.best.1,
      λ a.
          let whole = list ++ (place table t (row c.args.core cuts)).entry ∷ [] in
          let none = unsound_many whole (omega (arith, long, length-append list ((place table t (row c.args.core cuts)).entry ∷ []))) in
          absurd (false≢true (sym none ∙ g.met.C.CoreTest.unsound x whole a)),
    ))

use Rattle.std.proofs.Common.{◌≡◌, [], Some, None, Err, Option, sym, ap, ◌∙◌, subst}
use Rattle.std.proofs.lemmas.Result.{err_from_is_err_and}
use Rattle.bounded.specs.Lists.{list_of}
use Rattle.tasks.specs.Tables.{sealed}
use Rattle.tasks.specs.declared.refusal.Refusal.{Refusal}
use Rattle.plans.specs.Plans.{places, rows_placed}
use Rattle.clearing.specs.Refused.{region_refusal}
use Rattle.clearing.specs.Examined.{Examined, FirstNotHeld}
use Rattle.clearing.proofs.Refusing.{rows_refused, rows_count, regions-refused, core_refused, none-refused}
use Rattle.clearing.proofs.Regions.{rows_placed-places}
use Rattle.clearing.proofs.examine.examine_plan.Given as given
use Rattle.clearing.proofs.examine.examine_plan.Goals as goal
use Rattle.clearing.proofs.examine.examine_plan.Goals.{After-place_all-placed}

pub returns-in_err-examine_rows : goal.returns-in_err-examine_rows
returns-in_err-examine_rows g c =
    let accepts = g.C.CoreTest.accepts c.args.test.now in
    let limit = g.C.CoreTest.limit c.args.test.now in
    let table = sealed c.args.table.now in
    let rows = c.args.rows.now in
    let p = err_from_is_err_and c.from_residual.result c.from_residual.ensures.1 in
    let is = p.1 ∙ ap (λ y. Err y) p.2 in
    subst (Examined accepts limit table rows) (sym is) (rows_refused accepts limit table rows c.in_err-examine_rows.field-0.0 c.in_err-examine_rows.ensures)

-- the rows of the places are the plan's
placed_rows : (g : given.Over) (c : After-place_all-placed g) → rows_placed (list_of c.place_all-placed.result) ≡ c.args.rows.now
placed_rows g c =
    let table = sealed c.args.table.now in
    ap rows_placed c.place_all-placed.ensures
    ∙ rows_placed-places table table.tasks c.args.rows.now (rows_count (g.C.CoreTest.accepts c.args.test.now) (g.C.CoreTest.limit c.args.test.now) table c.args.rows.now c.in_ok-examine_rows.ensures)

pub examine_regions-requires : goal.examine_regions-requires
examine_regions-requires g c =
    let table = sealed c.args.table.now in
    c.place_all-placed.ensures ∙ sym (ap (places table table.tasks) (placed_rows g (goal.at.examine_regions-requires g c).After-place_all-placed))

-- the regions of the places are the plan's too
module _ (g : given.Over) (c : After-place_all-placed g) where
  regions_told : (o : Option Refusal) → o ≡ region_refusal (g.C.CoreTest.limit c.args.test.now) (sealed c.args.table.now) 1 [] (sealed c.args.table.now).tasks (rows_placed (list_of c.place_all-placed.result))
      → o ≡ region_refusal (g.C.CoreTest.limit c.args.test.now) (sealed c.args.table.now) 1 [] (sealed c.args.table.now).tasks c.args.rows.now
  regions_told o e = e ∙ ap (region_refusal (g.C.CoreTest.limit c.args.test.now) (sealed c.args.table.now) 1 [] (sealed c.args.table.now).tasks) (placed_rows g c)

pub returns-in_err-examine_regions : goal.returns-in_err-examine_regions
returns-in_err-examine_regions g c =
    let accepts = g.C.CoreTest.accepts c.args.test.now in
    let limit = g.C.CoreTest.limit c.args.test.now in
    let table = sealed c.args.table.now in
    let rows = c.args.rows.now in
    let p = err_from_is_err_and c.from_residual-in_err-examine_regions.result c.from_residual-in_err-examine_regions.ensures.1 in
    let is = p.1 ∙ ap (λ y. Err y) p.2 in
    let told = regions_told g (goal.at.returns-in_err-examine_regions g c).After-place_all-placed (Some c.in_err-examine_regions.field-0.0) c.in_err-examine_regions.ensures in
    subst (Examined accepts limit table rows) (sym is) (regions-refused accepts limit table rows c.in_ok-examine_rows.ensures c.in_err-examine_regions.field-0.0 told)

pub returns-in-None : goal.returns-in-None
returns-in-None g c =
    let accepts = g.C.CoreTest.accepts c.args.test.now in
    let ps = list_of c.place_all-placed.result in
    let short = regions_told g (goal.at.returns-in-None g c).After-place_all-placed None c.in_ok-examine_regions.ensures in
    none-refused accepts (g.C.CoreTest.limit c.args.test.now) (sealed c.args.table.now) c.args.rows.now c.in_ok-examine_rows.ensures short
    ps c.place_all-placed.ensures (subst (λ n. FirstNotHeld accepts n ps None) c.cores.ensures c.in-None.ensures)

pub returns-in-Some : goal.returns-in-Some
returns-in-Some g c =
    let accepts = g.C.CoreTest.accepts c.args.test.now in
    let ps = list_of c.place_all-placed.result in
    let core = c.in-Some.core in
    let short = regions_told g (goal.at.returns-in-Some g c).After-place_all-placed None c.in_ok-examine_regions.ensures in
    core_refused accepts (g.C.CoreTest.limit c.args.test.now) (sealed c.args.table.now) c.args.rows.now c.in_ok-examine_rows.ensures short
    ps c.place_all-placed.ensures core (subst (λ n. FirstNotHeld accepts n ps (Some core)) c.cores.ensures c.in-Some.ensures)

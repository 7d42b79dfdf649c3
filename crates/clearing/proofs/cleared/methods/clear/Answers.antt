use Rattle.std.proofs.Common.{◌≡◌, ◌+◌, ◌≤◌, [], ◌++◌, length, sym, ap, ◌∙◌, subst, arith}
use Rattle.bounded.specs.Lists.{list_of}
use Rattle.tasks.specs.Tables.{sealed}
use Rattle.tasks.proofs.Rules.{rules_are}
use Rattle.coretests.specs.Edf.{EdfAccepts, edf_limit}
use Rattle.plans.specs.Plans.{Lawful}
use Rattle.bounded.proofs.Pushed.{extended}
use Rattle.clearing.proofs.Refusing.{fits_long}
use Rattle.clearing.proofs.cleared.methods.clear.Goals as goal
use Rattle.clearing.proofs.cleared.methods.clear.Goals.{After-extend_from_slice}

-- a lawful plan has room
kept_rows : (c : After-extend_from_slice) → list_of c.extend_from_slice.new.self ≡ c.args.rows.now
kept_rows c =
    let table = sealed c.args.table.now in
    let rows = c.args.rows.now in
    let none = list_of c.default-kept.result in
    let many = fits_long edf_limit table [] table.tasks rows c.in_ok-examine_plan.ensures.fits in
    let room : length none + length rows ≤ 24 = omega (arith, ap length c.default-kept.ensures, many, (rules_are table c.args.table.now.table.rules).few) in
    extended none rows (list_of c.extend_from_slice.new.self) 24 c.extend_from_slice.result c.extend_from_slice.ensures.ok c.extend_from_slice.ensures.variant room
    ∙ ap (λ l. l ++ rows) c.default-kept.ensures

pub invariant_of-cleared : goal.invariant_of-cleared
invariant_of-cleared c =
    let rows = c.args.rows.now in
    let lawful = subst (λ t. Lawful EdfAccepts edf_limit t rows) (sym c.duplicate.ensures) c.in_ok-examine_plan.ensures in
    record { lawful = ∣ subst (λ l. Lawful EdfAccepts edf_limit (sealed c.duplicate.result) l) (sym (kept_rows (goal.at.invariant_of-cleared c).After-extend_from_slice)) lawful ∣₁ }

pub returns : goal.returns
returns c = (c.in_ok-examine_plan.ensures, c.duplicate.ensures, kept_rows (goal.at.returns c).After-extend_from_slice)

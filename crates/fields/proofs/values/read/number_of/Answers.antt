use Rattle.std.proofs.Common.{◌≡◌, ◌+◌, ◌*◌, None, drop, sym, ap, ◌∙◌, arith, rules}
use Rattle.std.proofs.lemmas.List.{at_drop_more, at_drop_all}
use Rattle.reader.specs.Progress.{number_refusal}
use Rattle.reader.proofs.Settling.{number_fits}
use Rattle.fields.specs.Wanted.{value_from}
use Rattle.fields.proofs.Digits.{is_number, ten_more, ten_room}
use Rattle.fields.proofs.values.read.number_of.Goals as goal

pub overflow_sub-digit : goal.overflow_sub-digit
overflow_sub-digit c = (c.requires.1 c.loop-digit.digit-index 0 (omega arith)).0

pub overflow_mul-value : goal.overflow_mul-value
overflow_mul-value c =
    let none : None ≡ number_refusal c.args.digits.now 0 = search rules in
    let fits = number_fits c.args.digits.now 0 none in
    let room = ten_room c.loop-digit.digit-index (omega (arith, fits.0)) in
    omega (arith, c.loop-digit.invariant.1, room)

pub overflow_add-value : goal.overflow_add-value
overflow_add-value c =
    let none : None ≡ number_refusal c.args.digits.now 0 = search rules in
    let fits = number_fits c.args.digits.now 0 none in
    let room = ten_room c.loop-digit.digit-index (omega (arith, fits.0)) in
    let digit = c.requires.1 c.loop-digit.digit-index 0 (omega arith) in
    omega (arith, c.loop-digit.invariant.1, room, c.from.ensures, digit.1)

pub loop-digit-preserved : goal.loop-digit-preserved
loop-digit-preserved c =
    let ds = c.args.digits.now in
    let i = c.loop-digit.digit-index in
    let v = c.loop-digit.value in
    let digit = c.requires.1 i 0 (omega arith) in
    let step = at_drop_more (value_from v) ds i 0 (omega arith) in
    (ap (λ d. value_from (v * 10 + d) (drop (i + 1) ds)) c.from.ensures ∙ sym step ∙ c.loop-digit.invariant.0, omega (arith, ten_more i, c.loop-digit.invariant.1, c.from.ensures, digit.1))

pub returns : goal.returns
returns c =
    let ds = c.args.digits.now in
    let none : None ≡ number_refusal ds 0 = search rules in
    let end = at_drop_all (value_from c.loop-digit.value) ds c.loop-digit.digit-index (omega arith) in
    (is_number ds c.requires none, sym end ∙ c.loop-digit.invariant.0)

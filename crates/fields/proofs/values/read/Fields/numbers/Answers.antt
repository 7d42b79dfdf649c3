use Rattle.reader.specs.declared.reader.Token.TheVariants.{Close, Space}
use Rattle.fields.proofs.Tokens.{next_token, token_is, no_mark}
use Rattle.fields.proofs.Counted.{sofar_none, numbers_stop, numbers_end, numbers_none, number_shorter, sofar_more}
use Rattle.fields.proofs.values.read.Fields.numbers.Goals as goal

pub loop-held-init : goal.loop-held-init
loop-held-init c = sofar_none _ _ c.new-held.ensures

pub returns-in_err-token : goal.returns-in_err-token
returns-in_err-token c =
    let n = c.in_err-token.ensures in
    rw c.from_residual.ensures (numbers_stop _ _ _ c.loop-held.invariant (no_mark n 32 (λ e. cc)) (no_mark n 41 (λ e. cc)))

pub returns-in-Close : goal.returns-in-Close
returns-in-Close c = numbers_end _ _ _ c.loop-held.invariant _ (token_is c.in_ok-token.ensures Close c.in-Close.is)

pub returns-in_err-n-in-Space : goal.returns-in_err-n-in-Space
returns-in_err-n-in-Space c =
    rw c.from_residual-in_err-n-in-Space.ensures (numbers_none _ _ _ c.loop-held.invariant _ (token_is c.in_ok-token.ensures Space c.in-Space.is) c.in_err-n-in-Space.ensures)

pub loop-held-smaller : goal.loop-held-smaller
loop-held-smaller c = number_shorter _ _ _ c.loop-held.invariant _ (token_is c.in_ok-token.ensures Space c.in-Space.is) _ _ c.in_ok-n-in-Space.ensures

pub loop-held-preserved : goal.loop-held-preserved
loop-held-preserved c =
    sofar_more _ _ _ c.loop-held.invariant _ (token_is c.in_ok-token.ensures Space c.in-Space.is) _ _ c.in_ok-n-in-Space.ensures _ c.push.result c.push.ensures.variant c.push.ensures.ok c.push.ensures.err

pub returns-in_default : goal.returns-in_default
returns-in_default c =
    let told = c.in_ok-token.ensures in
    numbers_stop _ _ _ c.loop-held.invariant (λ t e. c.in_default.not-Space (next_token 32 t told e)) (λ t e. c.in_default.not-Close (next_token 41 t told e))

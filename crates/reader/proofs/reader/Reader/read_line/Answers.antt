use Rattle.std.proofs.Common.{refl}
use Rattle.std.proofs.lemmas.Result.{err_from_is_err_and}
use Rattle.grammar.specs.Kinds.{kind}
use Rattle.grammar.specs.States.{Start, Word, Closed}
use Rattle.reader.proofs.Stalled.{heads, stuck_later, stuck_strange, stuck_token, start_forbids, closed_forbids}
use Rattle.reader.proofs.Ended.{stuck_refused, open_runs, form_runs, line_read}
use Rattle.reader.proofs.reader.Reader.read_line.Goals as goal

pub returns-in_err-open : goal.returns-in_err-open
returns-in_err-open c =
    let p = err_from_is_err_and c.from_residual.result c.from_residual.ensures.1 in
    let a = c.args.self.now in
    let told = c.in_err-open.ensures in
    rw (p.1, p.2) (refl, stuck_refused _ _ _ (stuck_strange Start a _ (λ e. cc) told.1 told.2))

pub returns-in_default : goal.returns-in_default
returns-in_default c =
    let told = c.in_ok-open.ensures in
    (refl, stuck_refused _ _ _ (stuck_token Start (λ e. cc) told (start_forbids _ (kind (heads told).first) c.in_default.not-Open (heads told).kindly)))

pub returns-in_err-read_form : goal.returns-in_err-read_form
returns-in_err-read_form c =
    let p = err_from_is_err_and c.from_residual-in_err-read_form.result c.from_residual-in_err-read_form.ensures.1 in
    let way = open_runs c.in_ok-open.ensures c.in-Open.is in
    rw (p.1, p.2) (refl, stuck_refused _ _ _ (stuck_later Start (Word 1 0) way.0 way.1 c.in_err-read_form.ensures.1))

pub returns-in_err-feed : goal.returns-in_err-feed
returns-in_err-feed c =
    let p = err_from_is_err_and c.from_residual-in_err-feed.result c.from_residual-in_err-feed.ensures.1 in
    let way = form_runs c.in_ok-open.ensures c.in-Open.is c.in_ok-read_form.ensures in
    let told = c.in_err-feed.ensures in
    rw (p.1, p.2) (refl, stuck_refused _ _ _ (stuck_later Start (Closed 0) way.0 way.1 (stuck_strange (Closed 0) c.read_form.new.self _ (λ e. cc) told.1 told.2)))

pub returns-in_default-token : goal.returns-in_default-token
returns-in_default-token c =
    let way = form_runs c.in_ok-open.ensures c.in-Open.is c.in_ok-read_form.ensures in
    let told = c.in_ok-feed.ensures in
    (refl, stuck_refused _ _ _ (stuck_later Start (Closed 0) way.0 way.1 (stuck_token (Closed 0) (λ e. cc) told (closed_forbids _ (kind (heads told).first) c.in_default-token.not-LineFeed (heads told).kindly))))

pub returns : goal.returns
returns c = line_read _ c.in_ok-open.ensures c.in-Open.is c.in_ok-read_form.ensures c.in_ok-feed.ensures c.in-LineFeed.is refl refl

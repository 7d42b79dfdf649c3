use Rattle.std.proofs.Common.{◌-◌, ap, ◌∙◌, arith}
use Rattle.std.proofs.lemmas.Result.{err_from_is_err_and}
use Rattle.grammar.specs.Kinds.{kind}
use Rattle.grammar.specs.States.{Word, Item}
use Rattle.reader.proofs.Stalled.{heads, stuck_strange, stuck_token, word_forbids, item_forbids}
use Rattle.reader.proofs.Settling.{word_read, word_refused, item_number, item_form, item_deep, items_more, amid_more, form_closed, mark_strange, mark_other, item_stuck}
use Rattle.reader.proofs.reader.Reader.+read_form_read_item.Goals as goal

pub read_form-returns-in_err-word : goal.read_form-returns-in_err-word
read_form-returns-in_err-word t c =
    let p = err_from_is_err_and c.from_residual.result c.from_residual.ensures.1 in
    let told = c.in_err-word.ensures in
    let a = c.args.self.now in
    let d = 4 - c.args.allow in
    rw (p.1, p.2) (ap (λ b. b.sheet) told.0, stuck_strange (Word d 0) a _ (λ e. cc) told.1 told.2)

pub read_form-returns-in_default : goal.read_form-returns-in_default
read_form-returns-in_default t c =
    let told = c.in_ok-word.ensures in
    let d = 4 - c.args.allow in
    (told.went.same, stuck_token (Word d 0) (λ e. cc) told (word_forbids d _ (kind (heads told).first) c.in_default.not-Word (heads told).kindly))

pub read_form-returns-in_err-check_word : goal.read_form-returns-in_err-check_word
read_form-returns-in_err-check_word t c =
    let p = err_from_is_err_and c.from_residual-in_err-check_word.result c.from_residual-in_err-check_word.ensures.1 in
    let told = c.in_ok-word.ensures in
    let d = 4 - c.args.allow in
    rw (p.1, p.2) (told.went.same, word_refused d told c.in-Word.is c.in_err-check_word.ensures)

pub read_form-returns-in_err-mark : goal.read_form-returns-in_err-mark
read_form-returns-in_err-mark t c =
    let p = err_from_is_err_and c.from_residual-in_err-mark.result c.from_residual-in_err-mark.ensures.1 in
    let d = 4 - c.args.allow in
    let g = amid_more (word_read d (omega arith) c.in_ok-word.ensures c.in-Word.is c.in_ok-check_word.ensures) c.loop-mark.invariant in
    let told = c.in_err-mark.ensures in
    rw (p.1, p.2) (ap (λ b. b.sheet) told.0 ∙ g.went.same, mark_strange g told.1 told.2)

pub read_form-returns-in-Close : goal.read_form-returns-in-Close
read_form-returns-in-Close t c =
    let g = amid_more (word_read (4 - c.args.allow) (omega arith) c.in_ok-word.ensures c.in-Word.is c.in_ok-check_word.ensures) c.loop-mark.invariant in
    form_closed g c.in_ok-mark.ensures c.in-Close.is

pub read_form-loop-mark-preserved : goal.read_form-loop-mark-preserved
read_form-loop-mark-preserved t c = items_more c.loop-mark.invariant c.in_ok-mark.ensures c.in-Space.is c.in_ok-read_item-in-Space.ensures

pub read_form-returns-in_err-read_item-in-Space : goal.read_form-returns-in_err-read_item-in-Space
read_form-returns-in_err-read_item-in-Space t c =
    let p = err_from_is_err_and c.from_residual-in_err-read_item-in-Space.result c.from_residual-in_err-read_item-in-Space.ensures.1 in
    let d = 4 - c.args.allow in
    let g = amid_more (word_read d (omega arith) c.in_ok-word.ensures c.in-Word.is c.in_ok-check_word.ensures) c.loop-mark.invariant in
    let mark = c.in_ok-mark.ensures in
    let told = c.in_err-read_item-in-Space.ensures in
    rw (p.1, p.2) (told.0 ∙ mark.went.same ∙ g.went.same, item_stuck g mark c.in-Space.is told.1)

pub read_form-returns-in_default-token : goal.read_form-returns-in_default-token
read_form-returns-in_default-token t c =
    let g = amid_more (word_read (4 - c.args.allow) (omega arith) c.in_ok-word.ensures c.in-Word.is c.in_ok-check_word.ensures) c.loop-mark.invariant in
    let mark = c.in_ok-mark.ensures in
    (mark.went.same ∙ g.went.same, mark_other g mark c.in_default-token.not-Space c.in_default-token.not-Close)

pub read_item-returns-in_err-item : goal.read_item-returns-in_err-item
read_item-returns-in_err-item t c =
    let p = err_from_is_err_and c.from_residual.result c.from_residual.ensures.1 in
    let told = c.in_err-item.ensures in
    let a = c.args.self.now in
    let d = 4 - c.args.allow in
    rw (p.1, p.2) (ap (λ b. b.sheet) told.0, stuck_strange (Item d) a _ (λ e. cc) told.1 told.2)

pub read_item-returns-then-allow-eq0 : goal.read_item-returns-then-allow-eq0
read_item-returns-then-allow-eq0 t c =
    let told = c.in_ok-item.ensures in
    (told.went.same, item_deep (4 - c.args.allow) (omega arith) told c.in-Open.is)

pub read_item-returns-in-Number : goal.read_item-returns-in-Number
read_item-returns-in-Number t c = item_number (4 - c.args.allow) (omega arith) c.in_ok-item.ensures c.in-Number.is c.check_number.result c.check_number.ensures

pub read_item-returns-else-allow-eq0 : goal.read_item-returns-else-allow-eq0
read_item-returns-else-allow-eq0 t c =
    let d = 4 - c.args.allow in
    item_form d (4 - (c.args.allow - 1)) _ (omega arith) (omega arith) (omega arith) c.in_ok-item.ensures c.in-Open.is c.read_form.result c.read_form.ensures

pub read_item-returns-in_default : goal.read_item-returns-in_default
read_item-returns-in_default t c =
    let told = c.in_ok-item.ensures in
    let d = 4 - c.args.allow in
    (told.went.same, stuck_token (Item d) (λ e. cc) told (item_forbids d _ (kind (heads told).first) c.in_default.not-Number c.in_default.not-Open (heads told).kindly))

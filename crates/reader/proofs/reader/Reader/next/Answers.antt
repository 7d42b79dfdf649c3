use Rattle.std.proofs.Common.{◌≡◌, ◌-◌, ◌<◌, length, get_or, take, drop, sym, refl, ap, ◌∙◌, subst, arith, rules}
use Rattle.std.specs.List.{before_first, position_or_len}
use Rattle.std.proofs.lemmas.List.{take_rest}
use Rattle.std.proofs.lemmas.List.Sums.{prefix_len-le-length}
use Rattle.std.proofs.lemmas.Grind.{common_steps}
use Rattle.grammar.specs.Kinds.{kind}
use Rattle.grammar.specs.Forms.{IsLetter, IsDigit, Run, Ends}
use Rattle.grammar.proofs.Steps.{is_open, is_close, is_space, is_feed}
use Rattle.reader.specs.Tokens.{rest}
use Rattle.reader.proofs.Passed.{by_front, front_one, no_letter, no_figure, letters_front, figures_front}
use Rattle.reader.proofs.reader.Reader.next.Goals as goal
use Rattle.reader.proofs.reader.Reader.next.Goals.{in-Open, in-Close, in-Space, in-LineFeed, in-Letter, in-Zero}

pub returns : goal.returns
returns c =
    let a = c.args.self.now in
    let s = a.sheet.now in
    let here : take (length s - a.position) (drop a.position s) ≡ rest a = take_rest s a.position in
    let item = c.in-Some.ensures.item in
    let some : 0 < length (rest a) = omega (arith, item, ap length here) in
    let first : c.from.result ≡ get_or (rest a) 0 0 = grind (arith, common_steps) in
    let width = c.width.ensures in
    elim c.match-kind_of.branch [
      | in-Open w ↦ by_front a _ _ _ 1 _ refl refl refl width w.token-is (front_one (rest a) 40 some (sym first ∙ is_open _ (sym w.in-Open.ensures))) (omega arith) tt
      | in-Close w ↦ by_front a _ _ _ 1 _ refl refl refl width w.token-is (front_one (rest a) 41 some (sym first ∙ is_close _ (sym w.in-Close.ensures))) (omega arith) tt
      | in-Space w ↦ by_front a _ _ _ 1 _ refl refl refl width w.token-is (front_one (rest a) 32 some (sym first ∙ is_space _ (sym w.in-Space.ensures))) (omega arith) tt
      | in-LineFeed w ↦ by_front a _ _ _ 1 _ refl refl refl width w.token-is (front_one (rest a) 10 some (sym first ∙ is_feed _ (sym w.in-LineFeed.ensures))) (omega arith) tt
      | in-Letter w ↦
          let is = w.front.ensures.value no_letter (λ x b h. search rules) ∙ ap (before_first no_letter) here in
          by_front a _ _ _ (position_or_len no_letter (rest a)) _ refl refl refl width w.token-is is (prefix_len-le-length _ (rest a)) (subst (λ r. Run IsLetter r × Ends IsLetter (drop (position_or_len no_letter (rest a)) (rest a))) (sym is) (letters_front (rest a) some (w.in-Letter.ensures ∙ ap kind first)))
      | in-Zero w ↦
          let is = w.front-in-Zero.ensures.value no_figure (λ x b h. search rules) ∙ ap (before_first no_figure) here in
          by_front a _ _ _ (position_or_len no_figure (rest a)) _ refl refl refl width w.token-is is (prefix_len-le-length _ (rest a)) (subst (λ r. Run IsDigit r × Ends IsDigit (drop (position_or_len no_figure (rest a)) (rest a))) (sym is) (figures_front (rest a) c.kind_of.result some (c.kind_of.ensures ∙ ap kind first) w.in-Zero.is))
    ]

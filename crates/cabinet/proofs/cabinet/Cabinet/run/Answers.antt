use Rattle.std.proofs.Common.{◌≡◌, ◌+◌, ◌<◌, [], ◌∷◌, map, length, take, drop, sym, ap, ◌∙◌, subst, arith, length-take}
use Rattle.std.proofs.lemmas.List.{map-append, take_more_set, drop-drop, drop-set-lt, get_or-take}
use Rattle.machine.specs.Machine.{reply_of, finally, answers, step}
use Rattle.machine.proofs.Runs.{finally-more, answers-more}
use Rattle.cabinet.specs.Cabinets.{state}
use Rattle.cabinet.proofs.Reaching.{kept}
use Rattle.cabinet.proofs.cabinet.Cabinet.run.Goals as goal

pub loop-i-preserved : goal.loop-i-preserved
loop-i-preserved c =
    let st = state c.args.self.now in
    let now = state c.loop-i.self in
    let next = state c.answer.new.self in
    let calls = c.args.calls.now in
    let log = c.loop-i.log in
    let n = c.min-count.result in
    let i = c.loop-i.i in
    let r = c.answer.result in
    let in_count : i < n = omega (arith, length-take n calls) in
    let in_calls : i < length calls = omega arith in
    let in_log : i < length log = omega arith in
    let said = subst (λ call. step now call ≡ (next, reply_of r)) (get_or-take n calls i _ in_count) c.answer.ensures in (
      finally-more st calls i _ in_calls now c.loop-i.invariant.0 next (sym (ap (λ x. x.0) said)),
      ap (map reply_of) (take_more_set log i r in_log) ∙ map-append reply_of (take i log) (r ∷ [])
          ∙ answers-more st calls i _ in_calls now c.loop-i.invariant.0 (map reply_of (take i log)) (reply_of r) c.loop-i.invariant.1 (sym (ap (λ x. x.1) said)),
      drop-set-lt (i + 1) log i r (omega arith) ∙ sym (drop-drop 1 i log) ∙ ap (drop 1) c.loop-i.invariant.2 ∙ drop-drop 1 i c.args.log.now,
    )

pub returns : goal.returns
returns c =
    let st = state c.args.self.now in
    let calls = c.args.calls.now in
    let log = c.loop-i.log in
    let n = c.min-count.result in
    let all : c.loop-i.i ≡ n = omega (arith, length-take n calls) in
    let replies : map reply_of (take n log) ≡ answers st (take n calls) = subst (λ k. map reply_of (take k log) ≡ answers st (take k calls)) all c.loop-i.invariant.1 in
    record {
      count = c.min-count.ensures;
      state = c.loop-i.invariant.0 ∙ ap (λ k. finally st (take k calls)) all;
      replies = replies;
      rest = subst (λ k. drop k log ≡ drop k c.args.log.now) all c.loop-i.invariant.2;
      law = kept st (take n calls) (map reply_of (take n log)) c.args.self.now.reached replies;
    }

use Rattle.std.proofs.Common.{sym, ap, ◌∙◌, Err, length-set, rules}
use Rattle.std.proofs.lemmas.Bool.{le-ltb}
use Rattle.std.proofs.lemmas.Result.{err_from_is_err_and}
use Rattle.muart.proofs.Looking.{found, not_found, stops, turn, known_stops, known_turn}
use Rattle.muart.proofs.look.look.Goals as goal

pub returns-in_err-register : goal.returns-in_err-register
returns-in_err-register c =
    let e = not_found _ _ (sym c.in_err-register.was ∙ c.try_from.ensures) in
    let room = le-ltb _ _ c.if-place-registers.false in
    let p = err_from_is_err_and c.from_residual.result c.from_residual.ensures.1 in
    record {
      answer = rw room (p.1 ∙ ap Err (p.2 ∙ e.1) ∙ sym (c.loop-at.invariant.1 ∙ known_stops _ _ c.loop-at-test.true e.0));
      same = search rules;
      wrote = rw room (sym (c.loop-at.invariant.0 ∙ stops _ _ _ _ _ c.loop-at-test.true c.loop-at.invariant.2 e.0));
    }

pub loop-at-preserved : goal.loop-at-preserved
loop-at-preserved c =
    let e = found _ _ (sym c.in_ok-register.was ∙ c.try_from.ensures) in
    let taken = c.loop-at-test.true in (
      turn _ _ _ _ _ _ _ _ _ c.loop-at.invariant.0 taken c.loop-at.invariant.2 e c.read.ensures.answer c.read.ensures.after,
      known_turn _ _ _ c.loop-at.invariant.1 taken e,
      simp length-set c.loop-at.invariant.2,
    )

use Rattle.std.proofs.Common.{sym, ◌∙◌}
use Rattle.std.proofs.KnownBytes.{Appends-nil}
use Rattle.script.proofs.Gathering.{if_known}
use Rattle.marks.proofs.Extending.{both_extended_on}
use Rattle.bench.proofs.Listing.{at_end, past_last, one_more, led_on}
use Rattle.bench.proofs.bench.Bench.run_script.Goals as goal
use Rattle.bench.proofs.bench.Bench.run_script.Goals.{in-Some-run_line+in_ok-write_all, in_default-run_line, else-loop-number-test, then-loop-number-test+in_ok-line+in_default}

pub loop-number-preserved : goal.loop-number-preserved
loop-number-preserved g c = (
  both_extended_on _ _ _ c.loop-number.invariant.0 c.run_line.ensures.room,
  led_on _ _ _ c.loop-number.number c.in-Some.line.now c.loop-number.invariant.1 c.run_line.ensures.state,
  λ bytes e.
      let l = c.loop-number.invariant.2 bytes e in
      let line = rw c.in-Some.is at (rw l.known at c.in_ok-line.ensures.line) in
      let rest = rw l.known at c.in_ok-line.ensures.rest in
      rw c.run_line.ensures.state (elim c.match-run_line.branch [
        | in-Some-run_line+in_ok-write_all w ↦
            rw w.listing-is (one_more bytes _ _ _ _ _ _ l _ _ _ _ line rest (sym w.in-Some-run_line.is ∙ c.run_line.ensures.prints) w.in_ok-write_all.ensures.bytes)
        | in_default-run_line w ↦
            rw w.listing-is (one_more bytes _ _ _ _ _ _ l _ _ _ _ line rest (sym w.in_default-run_line.is ∙ c.run_line.ensures.prints) (Appends-nil _))
      ]),
)

pub returns-clause-state : goal.returns-clause-state
returns-clause-state g c =
    if_known _ _ (λ bytes e.
    let l = c.loop-number.invariant.2 bytes e in
    elim c.loop-number-test.branch [
      | else-loop-number-test w ↦ (past_last bytes _ _ _ _ _ _ l w.loop-number-test.false).1
      | then-loop-number-test+in_ok-line+in_default w ↦ (at_end bytes _ _ _ _ _ _ l 81 (rw w.in_default.is at (rw l.known at w.in_ok-line.ensures.line))).1
    ])

pub returns-clause-listing : goal.returns-clause-listing
returns-clause-listing g c =
    if_known _ _ (λ bytes e.
    let l = c.loop-number.invariant.2 bytes e in
    elim c.loop-number-test.branch [
      | else-loop-number-test w ↦ (past_last bytes _ _ _ _ _ _ l w.loop-number-test.false).0
      | then-loop-number-test+in_ok-line+in_default w ↦ (at_end bytes _ _ _ _ _ _ l 81 (rw w.in_default.is at (rw l.known at w.in_ok-line.ensures.line))).0
    ])

pub returns-in_err-write_all-clause-history : goal.returns-in_err-write_all-clause-history
returns-in_err-write_all-clause-history g c = led_on _ _ _ c.loop-number.number c.in-Some.line.now c.loop-number.invariant.1 c.run_line.ensures.state

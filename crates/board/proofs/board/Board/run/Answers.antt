use Rattle.std.proofs.Common.{◌<◌, arith}
use Rattle.recorder.proofs.Extending.{extended_on}
use Rattle.board.proofs.Clocks.{turn, marks_turn}
use Rattle.board.proofs.board.Board.run.Goals as goal

pub skip-requires : goal.skip-requires
skip-requires g c = record {
  short = omega arith;
  fits = omega arith;
  still = λ n h. c.quiet.ensures.still n (omega arith);
  steady = λ h. c.quiet.ensures.steady (omega arith);
  same = λ n h. c.quiet.ensures.same n (omega arith);
}

pub loop-left-preserved : goal.loop-left-preserved
loop-left-preserved g c =
    let less : c.min-quiet.result < c.loop-left.left = omega arith in (
      turn c.loop-left.left c.min-quiet.result _ _ _ less c.skip.ensures.view c.once.ensures.view _ c.loop-left.invariant.0,
      marks_turn c.loop-left.left c.min-quiet.result _ _ _ less c.skip.ensures.view c.once.ensures.view _ _ _ c.skip.ensures.silent c.once.ensures.wires c.loop-left.invariant.1,
      omega arith,
      omega arith,
      extended_on _ _ _ c.loop-left.invariant.4 c.once.ensures.room,
    )

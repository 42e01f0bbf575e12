-- The worked examples hold: the rules compute each of them.
use Rattle.std.proofs.Common.{refl}
use lib.Count.{ones}
use Rattle.muart.specs.Serial.{serial_tick}
use Rattle.muart.specs.Clock.{timer_step, internal_clock, clocked}
use Rattle.board.specs.Views.{settled, clock_once}
use Rattle.board.specs.Examples.{WorkedExamples}

pub worked_examples : WorkedExamples
unfolding clock_once settled clocked internal_clock timer_step serial_tick ones
worked_examples = record {
  single_pulse_answers_239 = refl;
  two_pulses_answer_71 = refl;
  second_timer_step_at_640 = refl;
  timer_from_0_requests_nothing = refl;
  pair_from_0001_requests = refl;
  pair_from_0100_requests_nothing = refl;
  data_bits_begin_at_107_214_320 = refl;
  even_parity_of_41_is_0 = refl;
  odd_parity_of_41_is_1 = refl;
  odd_frame_under_way = refl;
  nested_takes_answer_20_and_8 = refl;
  end_closes_2 = refl;
  end_leaves_5 = refl;
}

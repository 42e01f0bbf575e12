use Rattle.std.proofs.Common.{rules}
use Rattle.refusals.proofs.Numbers.{numbers_tell_refusals}
use Rattle.board.proofs.SingleCalls.{refused_call_changes_nothing, spans_add}
use Rattle.board.proofs.Cutting.{cut_does_not_show}
use Rattle.board.proofs.Stacking.{service_is_a_stack}
use Rattle.board.proofs.Drained.{requests_drain}
use Rattle.board.proofs.Worked.{worked_examples}
use Rattle.board.proofs.board.Board.power_up.Goals as goal

pub returns : goal.returns
returns g c = record {
  started = search rules;
  refusals = refused_call_changes_nothing;
  numbers = numbers_tell_refusals;
  spans = spans_add;
  cuts = cut_does_not_show;
  service = service_is_a_stack;
  draining = requests_drain;
  examples = worked_examples;
}

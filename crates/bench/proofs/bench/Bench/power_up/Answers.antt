use Rattle.std.proofs.Common.{ap, ◌∙◌}
use Rattle.board.specs.Perform.{started}
use Rattle.bench.proofs.bench.Bench.power_up.Goals as goal

pub returns-clause-state : goal.returns-clause-state
returns-clause-state c = λ i. record {
  board = (c.power_up.ensures.started ∙ ap started c.new.ensures) i;
  wires = c.new-2.ensures.wires i;
  services = c.new-2.ensures.services i;
}

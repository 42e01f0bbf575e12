-- A line runs as the bytes kept of it do.
use Rattle.std.proofs.Common.{cond, ltb, [], None, ap}
use Rattle.script.proofs.Start.{start_decides}
use Rattle.bench.specs.Scripts.{item_calls, item_prints, last_line, StartRuns}

pub start_runs : StartRuns
start_runs number line s = record {
  calls = ap (λ said. cond (ltb last_line number) [] (item_calls said s)) (start_decides line);
  prints = ap (λ said. cond (ltb last_line number) None (item_prints number said s)) (start_decides line);
}

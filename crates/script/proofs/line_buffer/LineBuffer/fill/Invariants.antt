use Rattle.std.proofs.Common.{◌≡◌, ℕ, List, Some}
use Rattle.script.proofs.Gathering.{Gathered}
use Rattle.script.proofs.line_buffer.LineBuffer.fill.Given as goal

abbrev pub invariant-loop : goal.invariant-loop
invariant-loop g l = (bytes : List ℕ) → g.R.Read.remaining l.fn.input ≡ Some bytes → Gathered g.row.KEPT bytes l.self l.any (g.R.Read.remaining l.input)

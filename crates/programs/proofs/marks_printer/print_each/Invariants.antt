use Rattle.std.proofs.Common.{◌≡◌, ℕ, List, Some}
use Rattle.programs.proofs.Showing.{Shown}
use Rattle.programs.proofs.marks_printer.print_each.Given as goal

abbrev pub invariant-loop-mark : goal.invariant-loop-mark
invariant-loop-mark g l =
    (text : _ → List ℕ) → ((mark : _) → g.T.Display.output mark ≡ Some (text mark)) → Shown text l.marks (g.W.Write.contents l.fn.output) l.mark-index (g.W.Write.contents l.output)

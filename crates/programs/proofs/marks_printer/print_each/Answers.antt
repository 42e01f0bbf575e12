use Rattle.programs.proofs.Showing.{one_shown, all_shown}
use Rattle.programs.proofs.marks_printer.print_each.Goals as goal

pub loop-mark-preserved : goal.loop-mark-preserved
loop-mark-preserved g c text shows =
    one_shown text _ _ _ _ (c.loop-mark.invariant text shows) c.mark-item.result _ c.mark-item.is c.loop-mark-test.true
    (rw (shows c.mark-item.result) at c.in_ok-writeln.ensures.bytes)

pub returns : goal.returns
returns g c text shows = all_shown text _ _ _ _ (c.loop-mark.invariant text shows) c.loop-mark-test.false

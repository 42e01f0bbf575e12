use Rattle.std.proofs.Common.{◌∙◌}
use Rattle.std.proofs.lemmas.Result.{on_ok_weaker}
use Rattle.script.proofs.Gathering.{if_known}
use Rattle.programs.proofs.Marking.{marks_printed}
use Rattle.programs.proofs.marks_printer.print_script_marks.Goals as goal

pub returns : goal.returns
returns g c =
    on_ok_weaker c.print_recorders.result (λ printed. if_known (g.R.Read.remaining c.args.script.now) _ (λ bytes e.
    marks_printed _ _ bytes _ _ _ _ _ _ _ c.power_up-bench.ensures.state
    (c.as_mut_slice.ensures.len ∙ c.in_ok-wire_room.ensures.len) (c.as_mut_slice-2.ensures.len ∙ c.in_ok-service_room.ensures.len)
    (rw e at c.in_ok-run_script.ensures.state) printed)) c.print_recorders.ensures

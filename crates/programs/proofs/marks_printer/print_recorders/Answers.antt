use Rattle.std.proofs.Common.{◌++◌, refl, ◌∙◌, subst, append_assoc}
use Rattle.std.proofs.KnownBytes.{Appends-trans}
use Rattle.std.proofs.lemmas.Result.{on_ok_weaker}
use Rattle.std.specs.Io.KnownBytes.{Appends}
use Rattle.marks.specs.Texts.{wire_text, service_text}
use Rattle.programs.specs.Printed.{lines_shown, away_line}
use Rattle.programs.proofs.marks_printer.print_recorders.Goals as goal

pub returns : goal.returns
returns g c =
    let wires = c.in_ok-print_each.ensures wire_text (λ m. refl) in
    let services = c.in_ok-print_each-2.ensures service_text (λ m. refl) in
    let both = Appends-trans _ _ _ _ _ wires services in
    let text = append_assoc (lines_shown wire_text c.marks.result.now) (lines_shown service_text c.marks-2.result.now) (away_line c.turned_away-wires_away.result c.turned_away-services_away.result)
    ∙ (λ i. lines_shown wire_text (c.marks.ensures i) ++ (lines_shown service_text (c.marks-2.ensures i) ++ away_line (c.turned_away-wires_away.ensures i) (c.turned_away-services_away.ensures i))) in
    on_ok_weaker c.writeln.result (λ away. subst (Appends _ _) text (Appends-trans _ _ _ _ _ both away)) c.writeln.ensures.bytes

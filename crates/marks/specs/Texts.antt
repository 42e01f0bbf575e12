-- Marks as text: numbers without padding, parts with a blank between them.
use Rattle.std.specs.Prelude.{ℕ, cond, List, ◌++◌, codes, decimal}
use Rattle.marks.specs.declared.wires.Line.{Line}
use Rattle.marks.specs.declared.wires.Line.TheVariants.{TxD, RxD, Int}
use Rattle.marks.specs.declared.wires.WireMark.{WireMark}
use Rattle.marks.specs.declared.services.ServiceMark.{ServiceMark}
use Rattle.marks.specs.declared.services.ServiceMark.TheVariants.{Taken, Passed, Closed}

abbrev pub line_name : Line → List ℕ
line_name TxD = codes "TxD"
line_name RxD = codes "RxD"
line_name Int = codes "INT"

-- `W clock line level`
abbrev pub wire_text : WireMark → List ℕ
wire_text mark = codes "W " ++ (decimal mark.clock ++ (codes " " ++ (line_name mark.line ++ (codes " " ++ decimal (cond mark.level 1 0)))))

-- a service mark of a kind
abbrev pub service_line : ℕ → ℕ → List ℕ → List ℕ
service_line clock level kind = codes "S " ++ (decimal clock ++ (codes " " ++ (decimal level ++ (codes " " ++ kind))))

-- `S clock level kind`
abbrev pub service_text : ServiceMark → List ℕ
service_text (Taken clock level) = service_line clock level (codes "taken")
service_text (Passed clock level) = service_line clock level (codes "passed")
service_text (Closed clock level) = service_line clock level (codes "closed")

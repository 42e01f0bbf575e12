-- What a run leaves in the recorders, printed.
use Rattle.std.proofs.Common.{◌≡◌, ℕ, List, Option, ap, ◌∙◌, subst}
use Rattle.std.specs.Io.KnownBytes.{Appends}
use Rattle.script.specs.Inputs.{lines_of}
use Rattle.line.specs.Meaning.{Meaning}
use Rattle.board.specs.Perform.{State, start}
use Rattle.board.specs.Histories.{ran}
use Rattle.bench.specs.Scripts.{script_calls}
use Rattle.programs.specs.Printed.{state_text, marks_of}

pub marks_printed : (before now : Option (List ℕ)) (bytes : List ℕ) (m : Meaning) (wires services w v : ℕ) (s t : State)
    → s ≡ start m w v → w ≡ wires → v ≡ services → t ≡ ran (script_calls 1 (lines_of bytes) s) s
    → Appends before now (state_text t) → Appends before now (marks_of bytes (start m wires services))
marks_printed before now bytes m wires services w v s t at_start e f leaves h =
    let begun : s ≡ start m wires services = at_start ∙ (λ i. start m (e i) (f i)) in
    subst (Appends before now) (ap state_text leaves ∙ ap (marks_of bytes) begun) h

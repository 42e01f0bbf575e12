-- What is printed of a run's marks.
use Rattle.std.specs.Prelude.{ℕ, ◌-◌, List, [], ◌∷◌, ◌++◌, length, flat_map, codes, decimal}
use Rattle.recorder.specs.Recording.{Recording}
use Rattle.script.specs.Inputs.{lines_of}
use Rattle.marks.specs.declared.wires.WireMark.{WireMark}
use Rattle.marks.specs.declared.services.ServiceMark.{ServiceMark}
use Rattle.marks.specs.Texts.{wire_text, service_text}
use Rattle.board.specs.Perform.{State}
use Rattle.board.specs.Histories.{ran}
use Rattle.bench.specs.Scripts.{script_calls}

-- each mark on a line of its own
abbrev pub lines_shown : {T : Type 0} → (T → List ℕ) → List T → List ℕ
lines_shown text marks = flat_map (λ mark. text mark ++ 10 ∷ []) marks

-- the marks counted that found no room
abbrev pub turned_away : {T : Type 0} → Recording T → ℕ
turned_away r = r.count - length r.kept

-- the last line
abbrev pub away_line : ℕ → ℕ → List ℕ
away_line wires services = codes "turned away: " ++ (decimal wires ++ (codes " wire, " ++ (decimal services ++ (codes " service" ++ 10 ∷ []))))

-- the wire marks, the service marks, and how many marks of either kind were turned away
abbrev pub recorded_text : Recording WireMark → Recording ServiceMark → List ℕ
recorded_text wires services = lines_shown wire_text wires.kept ++ (lines_shown service_text services.kept ++ away_line (turned_away wires) (turned_away services))

-- what the recorders of a board hold, as text
abbrev pub state_text : State → List ℕ
state_text s = recorded_text s.wires s.services

-- the marks of a script, given by its bytes
abbrev pub marks_of : List ℕ → State → List ℕ
marks_of bytes s = state_text (ran (script_calls 1 (lines_of bytes) s) s)

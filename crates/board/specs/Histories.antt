-- Histories: the calls made of a board since power-up, in order, with their arguments, refused ones too.
use Rattle.std.specs.Prelude.{List, [], ◌∷◌, ◌++◌}
use Rattle.marks.specs.declared.services.ServiceMark.{ServiceMark}
use Rattle.board.specs.Perform.{Call, Answer, State, after, answered, service_marks}

-- where a history leaves a board
abbrev pub ran : List Call → State → State
ran [] s = s
ran (c ∷ cs) s = ran cs (after c s)

-- what its calls answered, one after the other
abbrev pub answers : List Call → State → List Answer
answers [] s = []
answers (c ∷ cs) s = answered c s.board ∷ answers cs (after c s)

-- the service marks that it made, kept or turned away
abbrev pub service_made : List Call → State → List ServiceMark
service_made [] s = []
service_made (c ∷ cs) s = service_marks c s.board ++ service_made cs (after c s)

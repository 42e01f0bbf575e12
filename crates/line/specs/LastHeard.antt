use Rattle.std.specs.Prelude.{Bool, [], ◌∷◌}
use Rattle.line.specs.Meaning.{clock, heard, Meaning}
use Rattle.line.specs.declared.loopback.Loopback.{Loopback}

-- The level last heard, or b where none was.
abbrev pub last_heard : Bool → Meaning
last_heard b [] = b
last_heard b (clock ∷ s) = last_heard b s
last_heard b (heard c ∷ s) = last_heard c s

-- What a loopback plug means.
abbrev pub plug : Loopback → Meaning
plug l = last_heard l.heard

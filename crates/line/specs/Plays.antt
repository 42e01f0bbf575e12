use Rattle.std.specs.Prelude.{ℕ, ◌-◌, min, max, Bool, cond, not, List, [], ◌∷◌, Some, None, Option, nat_le}
use Rattle.std.specs.Option.{unwrap_or}
use Rattle.std.specs.Vec.Iter.{into_iter_items}
use Rattle.line.specs.Meaning.{clock, heard, Meaning}
use Rattle.line.specs.declared.recorded.Recorded.{Recorded}

-- A level that turns over after each wait in turn, of which 0 counts as 1, whatever is heard.
abbrev pub plays : Bool → List ℕ → Meaning
plays l ws [] = l
plays l ws (heard b ∷ s) = plays l ws s
plays l [] (clock ∷ s) = plays l [] s
plays l (w ∷ ws) (clock ∷ s) = cond (nat_le w 1) (plays (not l) ws s) (plays l ((w - 1) ∷ ws) s)

-- What is left of the wait under way, and the waits after it; with none under way the list is done.
abbrev pub under_way : Option ℕ → List ℕ → List ℕ
under_way None later = []
under_way (Some left) later = left ∷ later

-- The waits that a recorded line has yet to play.
abbrev pub to_come : Recorded → List ℕ
to_come r = under_way r.left (into_iter_items r.waits)

-- What a recorded line means.
abbrev pub tape : Recorded → Meaning
tape r = plays r.level (to_come r)

-- The clocks until the first wait is over.
abbrev pub first_wait : List ℕ → Option ℕ
first_wait [] = None
first_wait (w ∷ ws) = Some (max w 1)

-- The clocks until a recorded line turns over, if it will.
abbrev pub waiting : Recorded → Option ℕ
waiting r = first_wait (to_come r)

-- How long a recorded line says that it is quiet: until it turns over, and 16,777,216 clocks at most.
abbrev pub quiet_for : Option ℕ → ℕ
quiet_for wait = min (unwrap_or wait 16777216) 16777216

-- Service is a stack, and the service marks tell it.
use Rattle.std.specs.Prelude.{◌≡◌, ℕ, ◌≤◌, Bool, true, false, cond, ◌⊎◌, List, [], ◌∷◌, length, Some, None, Option, ◌==◌, slice_index_or}
use Rattle.levels.specs.Sets.{levels}
use Rattle.line.specs.Meaning.{Meaning}
use Rattle.marks.specs.declared.services.ServiceMark.{ServiceMark}
use Rattle.marks.specs.declared.services.ServiceMark.TheVariants.{Taken, Passed, Closed}
use Rattle.board.specs.Perform.{Call, State, start}
use Rattle.board.specs.Histories.{ran, service_made}

-- the levels still open, latest first: taken opens its level, passed opens none, closed must name the latest and closes it
abbrev pub replay : List ServiceMark → List ℕ → Option (List ℕ)
replay [] opened = Some opened
replay (Taken c l ∷ marks) opened = replay marks (l ∷ opened)
replay (Passed c l ∷ marks) opened = replay marks opened
replay (Closed c l ∷ marks) [] = None
replay (Closed c l ∷ marks) (latest ∷ opened) = cond (l == latest) (replay marks opened) None

-- the service recorder, empty before a history, has room for every service mark that the history makes
abbrev pub TurnedNone : List Call → State → Type 0
TurnedNone h s = length (service_made h s) ≤ s.services.room

-- the levels in service
abbrev pub in_service : State → List Bool
in_service s = s.board.unit.sensitive.levels.service

-- a level is in a set if its place is set
abbrev pub Member : ℕ → List Bool → Type 0
Member l set = slice_index_or set l false ≡ true

-- a level is among those listed
abbrev pub Among : ℕ → List ℕ → Type 0
Among l [] = ⊥
Among l (k ∷ ks) = (l ≡ k) ⊎ Among l ks

-- the list holds the levels of the set, and no other
abbrev pub Lists : List ℕ → List Bool → Type 0
Lists ls set = (l : ℕ) → (Among l ls → Member l set) × (Member l set → Among l ls)

-- each kept closed mark closes the latest taken mark still open and names its level, and the levels in service are those still open
abbrev pub Stacked : State → Type 0
Stacked s = (replay s.services.kept [] ≡ Some (levels (in_service s))) × Lists (levels (in_service s)) (in_service s)

-- after any history from power-up whose service marks were all kept, the kept marks are a stack of the levels in service
abbrev pub ServiceIsAStack : Type 0
ServiceIsAStack = (m : Meaning) (wires services : ℕ) (h : List Call) → TurnedNone h (start m wires services) → Stacked (ran h (start m wires services))

-- The marks that changes of lines and service make.
use Rattle.std.specs.Prelude.{ℕ, suc, Bool, true, false, cond, not, List, [], ◌∷◌, ◌++◌, Some, None, Option}
use Rattle.marks.specs.declared.wires.Line.{Line}
use Rattle.marks.specs.declared.wires.Line.TheVariants.{TxD, RxD, Int}
use Rattle.marks.specs.declared.wires.WireMark.{WireMark}
use Rattle.marks.specs.declared.services.ServiceMark.{ServiceMark}
use Rattle.marks.specs.declared.services.ServiceMark.TheVariants.{Taken, Passed, Closed}
use Rattle.marks.specs.declared.wires.Lines.{Lines}

-- whether two levels differ
abbrev pub differ : Bool → Bool → Bool
differ true b = not b
differ false b = b

-- a changed line is marked with its new level
abbrev pub change : ℕ → Line → Bool → Bool → List WireMark
change c l a b = cond (differ a b) (record { clock = c; line = l; level = b } ∷ []) []

-- TxD, RxD and INT, in that order
abbrev pub changes : ℕ → Lines → Lines → List WireMark
changes c a b = change c TxD a.txd b.txd ++ (change c RxD a.rxd b.rxd ++ change c Int a.int b.int)

-- a level taken with nesting on is marked taken, with nesting off passed
abbrev pub taken_marks : ℕ → Bool → Option ℕ → List ServiceMark
taken_marks c nesting None = []
taken_marks c nesting (Some l) = cond nesting (Taken c l) (Passed c l) ∷ []

-- closed levels are marked lowest first; the first place of the set is level l
abbrev pub closed_from : ℕ → ℕ → List Bool → List ServiceMark
closed_from c l [] = []
closed_from c l (true ∷ set) = Closed c l ∷ closed_from c (suc l) set
closed_from c l (false ∷ set) = closed_from c (suc l) set

abbrev pub closed_marks : ℕ → List Bool → List ServiceMark
closed_marks c set = closed_from c 0 set

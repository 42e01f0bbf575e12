-- What a look answers and writes.
use Rattle.std.specs.Prelude.{ℕ, cond, List, [], ◌∷◌, length, Some, None, Ok, Err, Result, nat_lt}
use Rattle.refusals.specs.declared.refusal.Refusal.{Refusal}
use Rattle.refusals.specs.declared.refusal.Refusal.TheVariants.{PlaceTooShort, NoSuchRegister}
use Rattle.muart.specs.declared.state.Rest.{Rest}
use Rattle.muart.specs.declared.state.Sensitive.{Sensitive}
use Rattle.registers.specs.Bus.{register_of}
use Rattle.muart.specs.Reading.{read_byte, read_leaves}

-- a register above 15 is refused at its turn
abbrev pub all_known : List ℕ → Result (Unit {0}) Refusal
all_known [] = Ok tt
all_known (n ∷ ns) = elim (register_of n) [ None ↦ Err NoSuchRegister | Some g ↦ all_known ns ]

-- the place must hold an answer for each register of the list
abbrev pub look_answer : List ℕ → ℕ → Result (Unit {0}) Refusal
look_answer ns room = cond (nat_lt room (length ns)) (Err PlaceTooShort) (all_known ns)

-- the registers are read in turn, each answer into its slot, up to the first that is refused
abbrev pub looked : List ℕ → Rest → Sensitive → List ℕ → List ℕ
looked [] r s place = place
looked (n ∷ ns) r s [] = []
looked (n ∷ ns) r s (slot ∷ place) =
    elim (register_of n) [ None ↦ slot ∷ place | Some g ↦ read_byte g r s ∷ looked ns r (read_leaves g r s) place ]

-- what the place holds after the look; a longer one keeps its rest
abbrev pub look_writes : List ℕ → Rest → Sensitive → List ℕ → List ℕ
look_writes ns r s place = cond (nat_lt (length place) (length ns)) place (looked ns r s place)

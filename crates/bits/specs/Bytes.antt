-- Eight flags as a byte: bit n of the byte is place n of the set.
use Rattle.std.specs.Prelude.{ℕ, ◌+◌, ◌*◌, ◌/◌, ◌%◌, Bool, cond, List, [], ◌∷◌, ◌==◌}

-- the lowest bit of a number
abbrev pub odd : ℕ → Bool
odd n = n % 2 == 1

-- the eight bits of a byte, lowest first
abbrev pub flags : ℕ → List Bool
flags n = odd n ∷ odd (n / 2) ∷ odd (n / 4) ∷ odd (n / 8) ∷ odd (n / 16) ∷ odd (n / 32) ∷ odd (n / 64) ∷ odd (n / 128) ∷ []

-- the number whose bits are the places of a set
abbrev pub byte : List Bool → ℕ
byte [] = 0
byte (b ∷ set) = cond b 1 0 + 2 * byte set

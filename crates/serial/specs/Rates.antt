-- The rates, by the low four bits of command 2.
use Rattle.std.specs.Prelude.{ℕ, ◌*◌, ◌%◌, cond, List, [], ◌∷◌, ◌==◌, slice_index}

-- The baud of each rate code; 0 for a code that never ticks.
abbrev pub bauds : List ℕ
bauds = 0 ∷ 0 ∷ 0 ∷ 19200 ∷ 9600 ∷ 4800 ∷ 2400 ∷ 1200 ∷ 600 ∷ 300 ∷ 200 ∷ 150 ∷ 110 ∷ 100 ∷ 75 ∷ 50 ∷ []

-- A bit lasts 32 ticks at code 3, and 64 at any other.
abbrev pub ticks_of : ℕ → ℕ
ticks_of command2 = cond (command2 % 16 == 3) 32 64

-- Each internal clock adds baud times the ticks to a bit.
abbrev pub rate_step : ℕ → ℕ
rate_step command2 = slice_index bauds (command2 % 16) * ticks_of command2

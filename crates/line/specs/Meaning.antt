use Rattle.std.specs.Prelude.{◌≡◌, ℕ, zero, suc, ◌<◌, ◌≤◌, Bool, List, [], ◌∷◌}

-- What can happen to a line partner: one clock passes, or it hears a level.
pub data Sign : Type 0 where
  clock : Sign
  heard : Bool → Sign

-- What a partner means: the level that it shows after each list of signs to come.
abbrev pub Meaning : Type 0
Meaning = List Sign → Bool

-- The level shown now.
abbrev pub shown : Meaning → Bool
shown m = m []

-- The meaning after one clock.
abbrev pub ticked : Meaning → Meaning
ticked m = λ more. m (clock ∷ more)

-- The meaning after hearing a level.
abbrev pub hearing : Bool → Meaning → Meaning
hearing b m = λ more. m (heard b ∷ more)

-- The meaning after n clocks.
abbrev pub elapsed : ℕ → Meaning → Meaning
elapsed zero m = m
elapsed (suc n) m = elapsed n (ticked m)

-- n is 1 to 16,777,216, and with fewer than n clocks and nothing heard the level does not change.
pub record Steady (n : ℕ) (m : Meaning) : Type 0 where
  pub some : 1 ≤ n
  pub most : n ≤ 16777216
  pub same : (k : ℕ) → k < n → shown (elapsed k m) ≡ shown m

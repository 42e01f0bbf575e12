-- Where recording a request, or disabling a level, changes nothing.
use Rattle.std.proofs.Common.{◌≡◌, ℕ, Bool, true, false, cond, not, ◌&&◌, List, get_or, set, sym, refl, ap, ◌∙◌}
use lib.Seq.{set-get_or}
use Rattle.std.proofs.lemmas.Bool.{both_ways}
use Rattle.levels.specs.Levels.{request, fresh}

-- a place that is set to what it holds
pub set_same : (s : List Bool) (i : ℕ) (b : Bool) → get_or s i false ≡ b → set s i b ≡ s
set_same s i b e = ap (λ v. set s i v) (sym e) ∙ set-get_or s i false

-- a request that is not made, or not enabled, or recorded already
pub not_fresh : (on : Bool) (level : ℕ) (mask requests : List Bool) → fresh on level mask requests ≡ false
    → cond on (request level mask requests) requests ≡ requests
not_fresh false level mask requests e = refl
not_fresh true level mask requests e = at (get_or mask level false) (get_or requests level false) refl e
  where
    at : (m r : Bool) → get_or requests level false ≡ r → (m && not r) ≡ false → cond m (set requests level true) requests ≡ requests
    at false r p q = refl
    at true true p q = set_same requests level true p
    at true false p q = absurd (both_ways true q refl)

-- a level that does not disable itself, or is disabled already
pub not_enabled : (on : Bool) (level : ℕ) (mask : List Bool) → (on && get_or mask level false) ≡ false → cond on (set mask level false) mask ≡ mask
not_enabled false level mask e = refl
not_enabled true level mask e = set_same mask level false e

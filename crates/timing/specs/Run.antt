-- One step, many times.
use Rattle.std.specs.Prelude.{ℕ, zero, suc, Bool, cond}

-- f, n times over, from s.
abbrev pub times : {S : Type 0} → ℕ → (S → S) → S → S
times zero f s = s
times (suc n) f s = times n f (f s)

-- f once if b, else nothing.
abbrev pub when : {S : Type 0} → Bool → (S → S) → S → S
when b f s = cond b (f s) s

-- The phase accumulator: each step adds, and what reaches the modulus wraps.
use Rattle.std.specs.Prelude.{ℕ, zero, suc, ◌+◌, ◌-◌, ◌*◌, ◌/◌, Bool, cond, nat_le}

-- A step wraps if it brings the phase to the modulus m or past it.
abbrev pub wraps : ℕ → ℕ → ℕ → Bool
wraps step m at = nat_le m (at + step)

-- The phase after one step.
abbrev pub next : ℕ → ℕ → ℕ → ℕ
next step m at = cond (wraps step m at) (at + step - m) (at + step)

-- The number of wraps in n steps.
abbrev pub turns : ℕ → ℕ → ℕ → ℕ → ℕ
turns step m zero at = 0
turns step m (suc n) at = cond (wraps step m at) (suc (turns step m n (next step m at))) (turns step m n (next step m at))

-- The most steps that keep the phase, counted on without a wrap, below most + 1 moduli.
abbrev pub reached : ℕ → ℕ → ℕ → ℕ → ℕ
reached step m most at = ((most + 1) * m - 1 - at) / step

-- A count that each step lowers by one, on a circle of m counts.
use Rattle.std.specs.Prelude.{ℕ, zero, suc, ◌+◌, ◌-◌, ◌%◌, Bool, false, cond, ◌||◌, ◌==◌}
use Rattle.timers.specs.declared.timer.Timer.{Timer}

-- One lower; 0 wraps to the highest count.
abbrev pub lowered : ℕ → ℕ → ℕ
lowered m c = cond (c == 0) (m - 1) (c - 1)

-- A step from 1 to 0 requests.
abbrev pub fires : ℕ → Bool
fires c = c == 1

-- How many steps lead to the request, the step from 1 to 0: a whole round from 0.
abbrev pub distance : ℕ → ℕ → ℕ
distance m c = cond (c == 0) m c

-- Whether one of the first n steps requests.
abbrev pub fires_within : ℕ → ℕ → ℕ → Bool
fires_within m zero c = false
fires_within m (suc n) c = fires c || fires_within m n (lowered m c)

-- (c − n) mod m.
abbrev pub behind : ℕ → ℕ → ℕ → ℕ
behind m n c = (c + (m - n % m)) % m

-- Longer than any count takes to request.
abbrev pub far : ℕ
far = 16777216

-- The steps before the one that requests, or `far` where the count is not heeded.
abbrev pub wait : Bool → ℕ → ℕ → ℕ
wait heeded m c = cond heeded (distance m c - 1) far

-- A timer one step on.
abbrev pub ticked : Timer → Timer
ticked t = record { count = lowered 256 t.count }

-- A timer n steps on.
abbrev pub lapsed : ℕ → Timer → Timer
lapsed n t = record { count = behind 256 n t.count }

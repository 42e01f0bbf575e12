-- The ticks that only count, in the stages of a frame: one definition for the sender and the receiver.
use Rattle.std.specs.Prelude.{ℕ, ◌-◌}
use Rattle.serial.specs.Far.{far}
use Rattle.serial.specs.declared.stage.Stage.{Stage}
use Rattle.serial.specs.declared.stage.Stage.TheVariants.{Idle, Start, Data, Parity, Stop}

-- How many ticks only count: all of a stage's but its last, and as many as any skip takes where nothing is under way.
abbrev pub quiet_in : {F : Type 0} → (F → ℕ) → Stage F → ℕ
quiet_in left Idle = far
quiet_in left (Start f) = left f - 1
quiet_in left (Data f place) = left f - 1
quiet_in left (Parity f) = left f - 1
quiet_in left (Stop f) = left f - 1

-- The stage with n ticks fewer left.
abbrev pub lessened_in : {F : Type 0} → (F → ℕ) → (ℕ → F → F) → ℕ → Stage F → Stage F
lessened_in left lasting n Idle = Idle
lessened_in left lasting n (Start f) = Start (lasting (left f - n) f)
lessened_in left lasting n (Data f place) = Data (lasting (left f - n) f) place
lessened_in left lasting n (Parity f) = Parity (lasting (left f - n) f)
lessened_in left lasting n (Stop f) = Stop (lasting (left f - n) f)

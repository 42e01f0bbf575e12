-- What a form is to callers.
use Rattle.std.specs.Prelude.{ℕ, Option}
use Rattle.serial.specs.declared.form.Parity.{Parity}
use Rattle.serial.specs.declared.form.Stops.{Stops}

-- `length` data bits, the parity and the stops, each bit for `ticks` rate ticks.
pub record FormView : Type 0 where
  pub length : ℕ
  pub parity : Option Parity
  pub stops : Stops
  pub ticks : ℕ

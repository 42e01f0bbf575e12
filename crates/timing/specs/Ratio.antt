-- How an accumulator moves.
use Rattle.std.specs.Prelude.{ℕ}

-- What each step adds, and the modulus at which the sum wraps.
pub record Pace : Type 0 where
  pub step : ℕ
  pub modulus : ℕ

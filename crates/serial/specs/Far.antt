-- The horizon of what waits for nothing.
use Rattle.std.specs.Prelude.{ℕ}

-- How many ticks an idle part may be skipped at once.
abbrev pub far : ℕ
far = 16777216

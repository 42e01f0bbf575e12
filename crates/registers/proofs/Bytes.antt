-- A byte made of eight levels is the sum of what they weigh.
use Rattle.std.proofs.Common.{◌≡◌, ℕ, ◌*◌, Bool, true, false, cond, map, arith}
use Rattle.std.specs.List.{range_with_len}
use Rattle.bits.specs.Bytes.{byte}
use Rattle.registers.specs.Ports.{byte_below}

weighs : (on : Bool) (w : ℕ) → cond on w 0 ≡ w * cond on 1 0
weighs true w = omega arith
weighs false w = omega arith

pub byte_made : (f : ℕ → Bool) → byte (map f (range_with_len 0 8)) ≡ byte_below f 8
byte_made f =
    omega (arith, weighs (f 1) 2, weighs (f 2) 4, weighs (f 3) 8, weighs (f 4) 16, weighs (f 5) 32, weighs (f 6) 64, weighs (f 7) 128)

-- The bits of a character, gathered low bit first.
use Rattle.std.proofs.Common.{◌≡◌, ℕ, ◌+◌, ◌*◌, ◌^◌, ◌<◌, Bool, true, false, ap, ◌∙◌, pow-suc, add-one, arith}
use Rattle.serial.specs.Receiving.{worth}

pub doubled : (n : ℕ) → 2 ^ (n + 1) ≡ 2 ^ n * 2
doubled n = ap (λ k. 2 ^ k) (add-one n) ∙ pow-suc 2 n

-- one bit more is one place more
pub one_more : (c place : ℕ) (rxd : Bool) → c < 2 ^ place → c + worth place rxd < 2 ^ (place + 1)
one_more c place true h = omega (arith, doubled place)
one_more c place false h = omega (arith, doubled place)

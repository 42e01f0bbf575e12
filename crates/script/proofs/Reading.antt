-- One column of a field.
use Rattle.std.proofs.Common.{◌≡◌, ℕ, suc, ◌+◌, ◌-◌, ◌*◌, ◌^◌, ◌<◌, ◌≤◌, Bool, true, false, List, ◌∷◌, pow-suc, arith}
use Rattle.std.specs.Char.{is_ascii_digit}
use Rattle.script.specs.Fields.{at, is_padding, read_on}

module _ (last column : ℕ) (seen : Bool) (number : ℕ) (bytes : List ℕ) (inside : column ≤ last) where
  more_left : last + 1 - column ≡ suc (last - column)
  more_left = omega arith

  next_left : last - column ≡ last + 1 - (column + 1)
  next_left = omega arith

  module _ (byte : ℕ) (rest : List ℕ) (is : bytes ≡ byte ∷ rest) where
    pub read_digit : is_ascii_digit byte ≡ true → read_on (last + 1 - column) column seen number bytes ≡ read_on (last + 1 - (column + 1)) (column + 1) true (number * 10 + (byte - 48)) rest
    read_digit e = rw (more_left, is, e, next_left)

    pub read_blank : is_ascii_digit byte ≡ false → is_padding byte seen (last - column) ≡ true → read_on (last + 1 - column) column seen number bytes ≡ read_on (last + 1 - (column + 1)) (column + 1) false number rest
    read_blank e f = rw (more_left, is, e, f, next_left)

    pub read_wrong : is_ascii_digit byte ≡ false → is_padding byte seen (last - column) ≡ false → read_on (last + 1 - column) column seen number bytes ≡ at column
    read_wrong e f = rw (more_left, is, e, f)

-- one digit more stays below the next power of ten
pub below_next : (number digit column first : ℕ) → first ≤ column → number < 10 ^ (column - first) → digit ≤ 9 → number * 10 + digit < 10 ^ (column + 1 - first)
below_next number digit column first le lt small =
    let e : column + 1 - first ≡ suc (column - first) = omega arith in rw (e, pow-suc) (omega arith)

pub below_later : (number column first : ℕ) → first ≤ column → number < 10 ^ (column - first) → number < 10 ^ (column + 1 - first)
below_later number column first le lt =
    let e : column + 1 - first ≡ suc (column - first) = omega arith in rw (e, pow-suc) (omega arith)

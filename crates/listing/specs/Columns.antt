-- Right-justified decimal numbers.
use Rattle.std.specs.Prelude.{ℕ, zero, suc, ◌+◌, ◌-◌, ◌/◌, ◌%◌, ◌^◌, cond, List, [], ◌∷◌, ◌++◌, length, replicate, nat_lt}

-- the byte of the digit of n that stands so many places from the right
abbrev pub digit : ℕ → ℕ → ℕ
digit n place = 48 + (n / 10 ^ place) % 10

-- the last column has a digit, also where n is 0; a column before n's first digit is blank
abbrev pub column : ℕ → ℕ → ℕ
column n zero = digit n zero
column n (suc place) = cond (nat_lt n (10 ^ suc place)) 32 (digit n (suc place))

-- n in so many columns, from the left
abbrev pub justified : ℕ → ℕ → List ℕ
justified zero n = []
justified (suc width) n = column n width ∷ justified width n

-- a text in so many columns, with blanks before it
abbrev pub padded : ℕ → List ℕ → List ℕ
padded width text = replicate (width - length text) 32 ++ text

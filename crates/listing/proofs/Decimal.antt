-- A number's columns are what `{n}` writes of it, with blanks before.
use Rattle.std.proofs.Common.{◌≡◌, ℕ, zero, suc, ◌+◌, ◌-◌, ◌/◌, ◌%◌, ◌^◌, ◌<◌, ◌≤◌, true, false, eqb, ltb, [], ◌∷◌, ◌++◌, length, replicate, decimal, sym, refl, ap, ◌∙◌, ⊎_elim, append_assoc, mod-eq_of_lt, div-lt_iff_lt-mul, pow-suc, div-one, arith, lit≤, length-append}
use native.Mathlib.Nat.{pow-succ', div-div-eq-div-mul, one-le-pow}
use Rattle.std.proofs.str.Laws.{order}
use Rattle.std.proofs.lemmas.Fmt.{decimal_digit, decimal_step}
use Rattle.std.proofs.lemmas.Bool.Decides.{nat_tests}
use Rattle.listing.specs.Columns.{digit, column, justified, padded}
use Rattle.listing.proofs.Places.{none_test}

-- a column is the column one place less of the number without its last digit
shifted : (n place : ℕ) → 10 ≤ n → column n (suc place) ≡ column (n / 10) place
shifted n zero h = let e : ltb n 10 ≡ false = grind (arith, nat_tests) in rw (e, div-one)
shifted n (suc place) h =
    let d = 10 ^ suc place in
    let pos : 0 < d = one-le-pow (suc place) 10 (lit≤ tt) in
    let split : n / 10 / d ≡ n / 10 ^ suc (suc place) = div-div-eq-div-mul n 10 d ∙ ap (λ x. n / x) (sym (pow-succ' 10 (suc place))) in
    let test : ltb n (10 ^ suc (suc place)) ≡ ltb (n / 10) d = sym (none_test n (10 ^ suc (suc place)) (one-le-pow (suc (suc place)) 10 (lit≤ tt))) ∙ ap (λ x. eqb x 0) (sym split) ∙ none_test (n / 10) d pos in
    rw (test, split)

more_digits : (width n : ℕ) → 10 ≤ n → justified (suc width) n ≡ justified width (n / 10) ++ (digit n 0 ∷ [])
more_digits zero n h = refl
more_digits (suc width) n h = rw (shifted n width h, more_digits width n h)

one_digit : (width n : ℕ) → n < 10 → justified (suc width) n ≡ replicate width 32 ++ (digit n 0 ∷ [])
one_digit zero n h = refl
one_digit (suc width) n h =
    let pos : 1 ≤ 10 ^ width = one-le-pow width 10 (lit≤ tt) in
    let wide : n < 10 ^ suc width = rw pow-suc (omega arith) in
    let e : ltb n (10 ^ suc width) ≡ true = grind (arith, nat_tests) in
    rw (e, one_digit width n h)

last_digit : (n : ℕ) → digit n 0 ≡ 48 + n % 10
last_digit n = rw div-one

below_some : (width n : ℕ) → 10 ≤ n → n < 10 ^ suc width → 0 < width
below_some zero n big h = absurd (omega arith)
below_some (suc width) n big h = omega arith

pub justified_decimal : (width n : ℕ) → n < 10 ^ width → 0 < width → n < 2 ^ 64 → justified width n ≡ padded width (decimal n)
justified_decimal zero n h some fits = absurd (omega arith)
justified_decimal (suc width) n h some fits =
    ⊎_elim
    (λ small.
    let same : n % 10 ≡ n = mod-eq_of_lt small in
    let left : width ≡ suc width - 1 = omega arith in
    one_digit width n small ∙ rw (last_digit n, same, decimal_digit n small) (ap (λ w. replicate w 32 ++ ((48 + n) ∷ [])) left))
    (λ big.
    let below : n / 10 < 10 ^ width = (div-lt_iff_lt-mul {k = 10} {x = n} {y = 10 ^ width} (lit≤ tt)).1 (rw pow-suc at h) in
    let wide : 0 < width = below_some width n big h in
    let front = justified_decimal width (n / 10) below wide (omega arith) in
    let step = decimal_step n big fits in
    let long : length (decimal n) ≡ length (decimal (n / 10)) + 1 = ap length step ∙ length-append (decimal (n / 10)) ((48 + n % 10) ∷ []) in
    let left : width - length (decimal (n / 10)) ≡ suc width - length (decimal n) = omega arith in
    more_digits width n big ∙ rw (front, left, last_digit n, append_assoc, ← step))
    (order n 10)

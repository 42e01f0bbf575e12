-- One more place of a number, from the right.
use Rattle.std.proofs.Common.{◌≡◌, ℕ, zero, suc, ◌+◌, ◌/◌, ◌%◌, ◌^◌, ◌<◌, true, cond, ◌&&◌, eqb, ltb, List, length, take, set, reverse, sym, div-lt_iff_lt-mul, pow-suc, add-one, arith, lit≤}
use mathlib.Core.List.{reverse-cons}
use native.Mathlib.Nat.{div-div-eq-div-mul, div-eq_of_lt, one-le-pow}
use Rattle.std.proofs.lemmas.List.{take_more_set}
use Rattle.std.proofs.lemmas.Bool.Decides.{nat_tests}
use Rattle.listing.specs.Columns.{column, justified}

-- what is left of n past one place more
pub rest_more : (n place rest : ℕ) → rest ≡ n / 10 ^ place → rest / 10 ≡ n / 10 ^ (place + 1)
rest_more n place rest e = rw (e, add-one, pow-suc, div-div-eq-div-mul)

none_left : (n d : ℕ) → 0 < d → n / d ≡ 0 → n < d
none_left n d pos e = let h : n / d < 1 = omega arith in omega (arith, (div-lt_iff_lt-mul {k = d} {x = n} {y = 1} pos).0 h)

pub none_test : (n d : ℕ) → 0 < d → eqb (n / d) 0 ≡ ltb n d
none_test n d pos =
    let left : n / d ≡ 0 → n < d = none_left n d pos in
    let right : n < d → n / d ≡ 0 = div-eq_of_lt in
    grind (arith, nat_tests)

pub byte_is : (n place rest : ℕ) → rest ≡ n / 10 ^ place → cond (ltb 0 place && eqb rest 0) 32 (48 + rest % 10) ≡ column n place
byte_is n zero rest e = rw e
byte_is n (suc place) rest e =
    let same : eqb (n / 10 ^ suc place) 0 ≡ ltb n (10 ^ suc place) = none_test n (10 ^ suc place) (one-le-pow (suc place) 10 (lit≤ tt)) in
    let later : ltb 0 (suc place) ≡ true = grind (arith, nat_tests) in
    rw (e, same, later)

-- one more column, where the last digit comes first
pub one_more : (n place v : ℕ) (xs : List ℕ) → place < length xs → v ≡ column n place → take place xs ≡ reverse (justified place n) → take (place + 1) (set xs place v) ≡ reverse (justified (place + 1) n)
one_more n place v xs inside is e = rw (take_more_set xs place v inside, e, is, add-one) (sym (reverse-cons (column n place) (justified place n)))

-- What n steps of the accumulator come to.
use Rattle.std.proofs.Common.{◌≡◌, ℕ, zero, suc, ◌+◌, ◌-◌, ◌*◌, ◌/◌, ◌%◌, ◌<◌, ◌≤◌, Bool, true, false, cond, sym, refl, ap, ◌∙◌, suc-mul, mul_comm, lt_of_mul-lt-mul_right, suc-add, mul-le-mul_left, mul-zero, zero-add, zero-mul, mul-suc, div-mul-le_self, arith}
use native.Mathlib.Nat.{lt-div-mul-add}
use lib.Arith.{digits_div, digits_mod}
use Rattle.std.proofs.lemmas.Bool.Decides.{nat_tests}
use Rattle.std.proofs.lemmas.Bool.{leb-true}
use Rattle.timing.specs.Run.{times}
use Rattle.timing.specs.Accumulator.{wraps, next, turns, reached}

one_more : (b : Bool) (x y z : ℕ) → x ≡ y + z → cond b (suc x) x ≡ cond b (suc y) y + z
one_more true x y z e = omega arith
one_more false x y z e = e

module _ (step m : ℕ) where
  -- One step keeps the phase below the modulus, and so do n.
  pub next_below : (at : ℕ) → at < m → step ≤ m → next step m at < m
  next_below at h s = grind (arith, nat_tests)

  pub times_below : (n at : ℕ) → at < m → step ≤ m → times n (next step m) at < m
  times_below zero at h s = h
  times_below (suc n) at h s = times_below n (next step m at) (next_below at h s) s

  one_linear : (b : Bool) (x t n at : ℕ) → (b ≡ true → m ≤ at + step) → x + t * m ≡ cond b (at + step - m) (at + step) + step * n
      → x + cond b (suc t) t * m ≡ at + step * suc n
  one_linear true x t n at h e = omega (arith, h refl, suc-mul t m, mul-suc step n)
  one_linear false x t n at h e = omega (arith, mul-suc step n)

  -- Nothing is lost: the phase and the wraps together hold all that was added.
  pub turns_linear : (n at : ℕ) → times n (next step m) at + turns step m n at * m ≡ at + step * n
  turns_linear zero at = omega (arith, mul-zero step, zero-mul m)
  turns_linear (suc n) at =
      one_linear (wraps step m at) (times n (next step m) (next step m at)) (turns step m n (next step m at)) n at
      (leb-true m (at + step)) (turns_linear n (next step m at))

  -- As digits: the wraps, and the phase below them.
  turns_digits : (n at : ℕ) → turns step m n at * m + times n (next step m) at ≡ at + n * step
  turns_digits n at = omega (arith, turns_linear n at, mul_comm step n)

  -- The wraps are the quotient, the phase is the remainder.
  pub turns_div : (n at : ℕ) → at < m → step ≤ m → turns step m n at ≡ (at + n * step) / m
  turns_div n at h s = sym (digits_div (turns step m n at) (times_below n at h s)) ∙ ap (λ v. v / m) (turns_digits n at)

  pub at_mod : (n at : ℕ) → at < m → step ≤ m → times n (next step m) at ≡ (at + n * step) % m
  at_mod n at h s = sym (digits_mod (turns step m n at) (times_below n at h s)) ∙ ap (λ v. v % m) (turns_digits n at)

  -- Fewer than k wraps while the sum stays below k moduli, and at least k from there on.
  pub turns_below : (n k at : ℕ) → at + step * n < k * m → turns step m n at < k
  turns_below n k at h =
      let l : turns step m n at * m < k * m = omega (arith, turns_linear n at) in
      lt_of_mul-lt-mul_right m l

  pub turns_least : (n k at : ℕ) → at < m → step ≤ m → k * m ≤ at + step * n → k ≤ turns step m n at
  turns_least n k at h s g =
      let l : k * m < suc (turns step m n at) * m = omega (arith, turns_linear n at, times_below n at h s, suc-mul (turns step m n at) m) in
      let r : k < suc (turns step m n at) = lt_of_mul-lt-mul_right m l in
      omega arith

  -- Within the reach at most `most` steps wrap, and the step after it is one wrap more.
  pub reached_within : (most at n : ℕ) → at < m → 0 < step → n ≤ reached step m most at → turns step m n at ≤ most
  reached_within most at n h p g =
      let d : ℕ = (most + 1) * m - 1 - at in
      let a : step * n ≤ step * (d / step) = mul-le-mul_left step g in
      let b : m ≤ (most + 1) * m = omega (arith, suc-mul most m) in
      let t : turns step m n at < most + 1 =
      turns_below n (most + 1) at (omega (arith, a, b, h, div-mul-le_self d step, mul_comm step (d / step))) in
      omega arith

  pub reached_beyond : (most at : ℕ) → at < m → 0 < step → step ≤ m → turns step m (reached step m most at + 1) at ≡ most + 1
  reached_beyond most at h p s =
      let d : ℕ = (most + 1) * m - 1 - at in
      let r : ℕ = d / step in
      let b : m ≤ (most + 1) * m = omega (arith, suc-mul most m) in
      let e : step * (r + 1) ≡ r * step + step = omega (arith, mul-suc step r, mul_comm step r) in
      let low : most + 1 ≤ turns step m (r + 1) at =
      turns_least (r + 1) (most + 1) at h s (omega (arith, b, e, h, lt-div-mul-add {a = d} {b = step} p)) in
      let high : turns step m (r + 1) at < most + 2 =
      turns_below (r + 1) (most + 2) at (omega (arith, b, e, h, s, div-mul-le_self d step, suc-mul (most + 1) m)) in
      omega arith

  -- A step wraps at most once.
  pub turns_le : (n at : ℕ) → turns step m n at ≤ n
  turns_le zero at = omega arith
  turns_le (suc n) at = let ih = turns_le n (next step m at) in grind (arith, nat_tests)

  -- The wraps of n + k steps are those of n and then of k.
  pub turns_add : (n k at : ℕ) → turns step m (n + k) at ≡ turns step m n at + turns step m k (times n (next step m) at)
  turns_add zero k at = rw (zero-add k) (sym (zero-add (turns step m k at)))
  turns_add (suc n) k at =
      rw suc-add (one_more (wraps step m at) (turns step m (n + k) (next step m at)) (turns step m n (next step m at)) (turns step m k (times n (next step m) (next step m at)))
      (turns_add n k (next step m at)))

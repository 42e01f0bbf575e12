-- What n steps of a count come to, once for every modulus.
use Rattle.std.proofs.Common.{◌≡◌, ℕ, zero, suc, ◌+◌, ◌-◌, ◌*◌, ◌/◌, ◌%◌, ◌<◌, Bool, true, false, cond, eqb, leb, sym, refl, ap, ◌∙◌, mod-lt, mod-eq_of_lt, suc-mul, div-add-mod', zero-mul, arith}
use native.Mathlib.Nat.{add-mul-mod_self_right}
use Rattle.std.proofs.lemmas.Bool.Decides.{nat_tests}
use Rattle.timing.specs.Run.{times}
use Rattle.timers.specs.Counts.{lowered, fires, distance, fires_within, behind}

module _ (m : ℕ) where
  pub lowered_below : (c : ℕ) → c < m → lowered m c < m
  lowered_below c h = grind (arith, nat_tests)

  pub times_lowered_below : (n c : ℕ) → c < m → times n (lowered m) c < m
  times_lowered_below zero c h = h
  times_lowered_below (suc n) c h = times_lowered_below n (lowered m c) (lowered_below c h)

  one_borrow : (b : Bool) (x n c q : ℕ) → c < m → (b ≡ true → c ≡ 0) → (b ≡ false → 0 < c)
      → x + n ≡ cond b (m - 1) (c - 1) + q * m → x + suc n ≡ c + cond b (suc q) q * m
  one_borrow true x n c q h z p e = omega (arith, z refl, suc-mul q m)
  one_borrow false x n c q h z p e = omega (arith, p refl)

  -- The count and the steps together are the first count, up to whole circles.
  pub lowered_linear : (n c : ℕ) → c < m → (q : ℕ) × (times n (lowered m) c + n ≡ c + q * m)
  lowered_linear zero c h = (0, omega (arith, zero-mul m))
  lowered_linear (suc n) c h =
      let ih = lowered_linear n (lowered m c) (lowered_below c h) in (
        cond (eqb c 0) (suc ih.0) ih.0,
        one_borrow (eqb c 0) (times n (lowered m) (lowered m c)) n c ih.0 h (λ e. grind (arith, nat_tests)) (λ e. grind (arith, nat_tests)) ih.1,
      )

  -- The count after n steps is (c − n) mod m.
  pub times_lowered : (n c : ℕ) → c < m → times n (lowered m) c ≡ behind m n c
  times_lowered n c h =
      let x : ℕ = times n (lowered m) c in
      let q : ℕ = (lowered_linear n c h).0 in
      let e : x + n ≡ c + q * m = (lowered_linear n c h).1 in
      let r : n % m < m = mod-lt n (omega (arith, h)) in
      let whole : (c + (m - n % m)) + q * m ≡ x + suc (n / m) * m = omega (arith, e, r, div-add-mod' n m, suc-mul (n / m) m) in
      sym (mod-eq_of_lt (times_lowered_below n c h)) ∙ sym (add-mul-mod_self_right x (suc (n / m)) m)
      ∙ ap (λ v. v % m) (sym whole) ∙ add-mul-mod_self_right (c + (m - n % m)) q m

  pub one_back : (c : ℕ) → c < m → behind m 1 c ≡ lowered m c
  one_back c h = sym (times_lowered 1 c h)

  -- A request falls within n steps exactly if the distance to zero is passed.
  pub fires_within_lem : (n c : ℕ) → 1 < m → c < m → fires_within m n c ≡ leb (distance m c) n
  fires_within_lem zero c w h = grind (arith, nat_tests)
  fires_within_lem (suc n) c w h =
      let ih = fires_within_lem n (lowered m c) w (lowered_below c h) in
      rw ih (grind (arith, nat_tests))

  -- The steps before the last of the distance do not request, the last one does.
  pub fires_at : (k c : ℕ) → 1 < m → c < m → k < distance m c → fires (times k (lowered m) c) ≡ eqb (distance m c) (suc k)
  fires_at zero c w h d = grind (arith, nat_tests)
  fires_at (suc k) c w h d =
      let d' : k < distance m (lowered m c) = grind (arith, nat_tests) in
      let ih = fires_at k (lowered m c) w (lowered_below c h) d' in
      ih ∙ grind (arith, nat_tests)

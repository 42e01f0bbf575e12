-- Runs of one thing many times.
use Rattle.std.proofs.Common.{◌≡◌, ℕ, zero, suc, ◌-◌, ◌<◌, refl, ap, ◌∙◌, arith}
use Rattle.timing.specs.Run.{times}

module _ {S : Type 0} (f : S → S) where
  -- what one step leaves alone, many leave alone
  pub times_still : (s : S) → f s ≡ s → (n : ℕ) → times n f s ≡ s
  times_still s e zero = refl
  times_still s e (suc n) = ap (times n f) e ∙ times_still s e n

  -- steps that each take one off count down
  pub times_count : (at : ℕ → S) → ((l : ℕ) → 1 < l → f (at l) ≡ at (l - 1)) → (n l : ℕ) → n < l → times n f (at l) ≡ at (l - n)
  times_count at one zero l h = ap at (omega arith)
  times_count at one (suc n) l h =
      let fewer : n < l - 1 = omega arith in
      let same : l - 1 - n ≡ l - suc n = omega arith in
      ap (times n f) (one l (omega arith)) ∙ times_count at one n (l - 1) fewer ∙ ap at same

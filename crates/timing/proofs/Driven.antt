-- A part that an accumulator drives: it moves once for each wrap.
use Rattle.std.proofs.Common.{◌≡◌, ℕ, zero, suc, Bool, true, false, cond, sym, refl, ap, ◌∙◌}
use Rattle.timing.specs.Run.{times, when}
use Rattle.timing.specs.Accumulator.{wraps, next, turns}

-- The accumulator of a state, its step and modulus, and the part that it drives: neither touches what is the other's.
pub record Drives {S : Type 0} (step modulus phase : S → ℕ) (put : ℕ → S → S) (move : S → S) : Type 0 where
  pub step_put : (a : ℕ) (s : S) → step (put a s) ≡ step s
  pub modulus_put : (a : ℕ) (s : S) → modulus (put a s) ≡ modulus s
  pub phase_put : (a : ℕ) (s : S) → phase (put a s) ≡ a
  pub put_put : (a b : ℕ) (s : S) → put a (put b s) ≡ put a s
  pub put_phase : (s : S) → put (phase s) s ≡ s
  pub step_move : (s : S) → step (move s) ≡ step s
  pub modulus_move : (s : S) → modulus (move s) ≡ modulus s
  pub move_put : (a : ℕ) (s : S) → move (put a s) ≡ put a (move s)

module _ {S : Type 0} (step modulus phase : S → ℕ) (put : ℕ → S → S) (move : S → S) (d : Drives step modulus phase put move) where
  -- One step of the accumulator, and of the part if it wraps.
  abbrev pub driven : S → S
  driven s = when (wraps (step s) (modulus s) (phase s)) move (put (next (step s) (modulus s) (phase s)) s)

  moves_put : (k a : ℕ) (s : S) → times k move (put a s) ≡ put a (times k move s)
  moves_put zero a s = refl
  moves_put (suc k) a s = ap (times k move) (d.move_put a s) ∙ moves_put k a (move s)

  module _ (n a m q : ℕ) (ih : (p : ℕ) (s : S) → step s ≡ a → modulus s ≡ m → phase s ≡ p → times n driven s ≡ put (times n (next a m) p) (times (turns a m n p) move s)) where
    -- The steps after the first, which wrapped or did not.
    rest : (b : Bool) (s : S) → step s ≡ a → modulus s ≡ m → times n driven (when b move (put q s)) ≡ put (times n (next a m) q) (times (cond b (suc (turns a m n q)) (turns a m n q)) move s)
    rest true s e f =
        ih q (move (put q s)) (d.step_move (put q s) ∙ d.step_put q s ∙ e) (d.modulus_move (put q s) ∙ d.modulus_put q s ∙ f) (ap phase (d.move_put q s) ∙ d.phase_put q (move s))
        ∙ ap (put (times n (next a m) q)) (moves_put (suc (turns a m n q)) q s) ∙ d.put_put (times n (next a m) q) q (times (suc (turns a m n q)) move s)
    rest false s e f =
        ih q (put q s) (d.step_put q s ∙ e) (d.modulus_put q s ∙ f) (d.phase_put q s)
        ∙ ap (put (times n (next a m) q)) (moves_put (turns a m n q) q s) ∙ d.put_put (times n (next a m) q) q (times (turns a m n q) move s)

  -- n steps of the whole are n steps of the accumulator, and as many of the part as there were wraps.
  pub splits : (n a m p : ℕ) (s : S) → step s ≡ a → modulus s ≡ m → phase s ≡ p → times n driven s ≡ put (times n (next a m) p) (times (turns a m n p) move s)
  splits zero a m p s e f g = sym (ap (λ q. put q s) (sym g) ∙ d.put_phase s)
  splits (suc n) a m p s e f g =
      ap (times n driven) (λ i. when (wraps (e i) (f i) (g i)) move (put (next (e i) (f i) (g i)) s))
      ∙ rest n a m (next a m p) (splits n a m) (wraps a m p) s e f

-- A step that does nothing beside its motion, many times.
use Rattle.std.proofs.Common.{◌≡◌, ℕ, zero, suc, ◌+◌, ◌-◌, ◌<◌, ◌≤◌, Bool, true, false, cond, sym, refl, ap, ◌∙◌, le_refl, arith}
use Rattle.timing.specs.Run.{times, when}
use Rattle.timing.specs.Accumulator.{wraps, next, turns}
use Rattle.timing.proofs.Repeats.{times_suc}
use Rattle.timing.proofs.Turns.{turns_add}

module _ {S : Type 0} where
  -- Where each of k steps is the bare motion, so are the k steps together.
  pub times_bare : (full bare : S → S) (k : ℕ) (s : S) → ((j : ℕ) → j < k → full (times j bare s) ≡ bare (times j bare s)) → times k full s ≡ times k bare s
  times_bare full bare zero s h = refl
  times_bare full bare (suc k) s h =
      times_suc k full s ∙ ap full (times_bare full bare k s (λ j l. h j (omega (arith, l)))) ∙ h k (omega arith) ∙ sym (times_suc k bare s)

  -- Two motions that do not meet, one after the other, many times.
  pub apart_times : (f g : S → S) → ((x : S) → g (f x) ≡ f (g x)) → (k : ℕ) (s : S) → times k f (g s) ≡ g (times k f s)
  apart_times f g c zero s = refl
  apart_times f g c (suc k) s = ap (times k f) (sym (c s)) ∙ apart_times f g c k (f s)

  pub both_times : (f g : S → S) → ((x : S) → g (f x) ≡ f (g x)) → (k : ℕ) (s : S) → times k (λ x. g (f x)) s ≡ times k g (times k f s)
  both_times f g c zero s = refl
  both_times f g c (suc k) s = both_times f g c k (g (f s)) ∙ ap (times k g) (apart_times f g c k (f s))

  -- A step taken or not passes what does not meet it.
  pub when_put : (b : Bool) (f g : S → S) (s : S) → f (g s) ≡ g (f s) → when b f (g s) ≡ g (when b f s)
  when_put true f g s e = e
  when_put false f g s e = refl

  -- and leaves what it does not touch
  pub when_same : {X : Type 0} (b : Bool) (f : S → S) (k : S → X) (s : S) → k (f s) ≡ k s → k (when b f s) ≡ k s
  when_same true f k s e = e
  when_same false f k s e = refl

  -- Two steps that agree where they are taken.
  pub when_alike : (b : Bool) (f g : S → S) (s : S) → (b ≡ true → f s ≡ g s) → when b f s ≡ when b g s
  when_alike true f g s e = e refl
  when_alike false f g s e = refl

module _ (step m : ℕ) where
  one_turn : (b : Bool) → b ≡ true → 1 ≤ cond b 1 0
  one_turn true e = le_refl 1
  one_turn false e = absurd_bool e
    where
      absurd_bool : false ≡ true → 1 ≤ 0
      absurd_bool e = let z : ◌≡◌ {A = ℕ} 0 1 = ap (λ b. cond b 1 0) e in omega arith

  -- A step that wraps adds a wrap to those before it.
  pub turns_before : (j k at : ℕ) → j < k → wraps step m (times j (next step m) at) ≡ true → turns step m j at < turns step m k at
  turns_before j k at h w =
      let a : turns step m (j + 1) at ≡ turns step m j at + turns step m 1 (times j (next step m) at) = turns_add step m j 1 at in
      let b : turns step m ((j + 1) + (k - (j + 1))) at ≡ turns step m (j + 1) at + turns step m (k - (j + 1)) (times (j + 1) (next step m) at) = turns_add step m (j + 1) (k - (j + 1)) at in
      let all : (j + 1) + (k - (j + 1)) ≡ k = omega arith in
      let c : turns step m ((j + 1) + (k - (j + 1))) at ≡ turns step m k at = ap (λ n. turns step m n at) all in
      let d : 1 ≤ turns step m 1 (times j (next step m) at) = one_turn (wraps step m (times j (next step m) at)) w in
      omega arith

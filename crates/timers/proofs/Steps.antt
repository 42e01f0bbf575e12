-- n steps of the five timers fall into n steps of each part, and their requests into those of the parts.
use Rattle.std.proofs.Common.{◌≡◌, ℕ, zero, suc, ◌<◌, min, Bool, true, false, ◌&&◌, ◌||◌, ◌⊎◌, sym, refl, ap, ◌∙◌, subst, inl, inr, arith}
use Rattle.timing.specs.Run.{times}
use Rattle.timers.specs.declared.duo.Units.{Units}
use Rattle.timers.specs.declared.modes.TimerModes.{TimerModes}
use Rattle.timers.specs.declared.modes.Fired.{Fired}
use Rattle.timers.specs.declared.timers.Timers.{Timers}
use Rattle.timers.specs.Counts.{lowered, fires, far}
use Rattle.timers.specs.Duos.{duo_stepped, duo_fired, DuoQuiet, duo_heard}
use Rattle.timers.specs.Stepping.{even_clock, odd_clock, stepped, reported, firing, even_watch, odd_watch, Quiet, heard}
use Rattle.timers.proofs.Waits.{min_choice}

-- The modes and the rest stay, so each part goes its own way.
pub times_stepped : (n : ℕ) (m : TimerModes) (t : Timers)
    → times n (stepped m) t
    ≡ record {
      one = record { count = times n (lowered 256) t.one.count };
      even = times n (duo_stepped (even_clock m)) t.even;
      odd = times n (duo_stepped (odd_clock m t.trigger.resting)) t.odd;
      trigger = t.trigger;
    }
times_stepped zero m t = refl
times_stepped (suc n) m t = times_stepped n m (stepped m t)

either_quiet : (x y w : Bool) → (x && w) ≡ false → (y && w) ≡ false → ((x || y) && w) ≡ false
either_quiet true y w p q = p
either_quiet false y w p q = q

heard_even : (a b c e x y w : Bool) → (b || ((x && w) || (y && w))) ≡ true → (a || (b || (c || (((x || y) && w) || e)))) ≡ true
heard_even a b c e x y w h = grind arith

heard_odd : (a b d e x y w : Bool) → ((x && w) || (e || (y && w))) ≡ true → (a || (b || (((x || y) && w) || (d || e)))) ≡ true
heard_odd a b d e x y w h = grind arith

-- Quiet parts make a quiet whole, and what one part lets hear, the whole does.
reported_quiet : (p : Bool) (e o : Units) (w : Fired) → (p && w.one) ≡ false → DuoQuiet e (even_watch w) → DuoQuiet o (odd_watch w) → Quiet (reported p e o) w
reported_quiet p e o w q f g =
    record {
      one = q;
      two = f.low;
      three = either_quiet o.low o.pair w.three g.low g.pair;
      four = either_quiet e.high e.pair w.four f.high f.pair;
      five = g.high;
    }

reported_heard : (p : Bool) (e o : Units) (w : Fired)
    → ((p && w.one) ≡ true) ⊎ ((duo_heard e (even_watch w) ≡ true) ⊎ (duo_heard o (odd_watch w) ≡ true)) → heard (reported p e o) w ≡ true
reported_heard p e o w (inl q) = rw q refl
reported_heard p e o w (inr (inl q)) =
    heard_even (p && w.one) (e.low && w.two) ((o.low || o.pair) && w.three) (o.high && w.five) e.high e.pair w.four q
reported_heard p e o w (inr (inr q)) =
    heard_odd (p && w.one) (e.low && w.two) ((e.high || e.pair) && w.four) (o.high && w.five) o.low o.pair w.three q

-- The requests of the parts in the step after k steps.
abbrev pub one_after : ℕ → Timers → Bool
one_after k t = fires (times k (lowered 256) t.one.count)

abbrev pub even_after : TimerModes → ℕ → Timers → Units
even_after m k t = duo_fired (even_clock m) (times k (duo_stepped (even_clock m)) t.even)

abbrev pub odd_after : TimerModes → ℕ → Timers → Units
odd_after m k t = duo_fired (odd_clock m t.trigger.resting) (times k (duo_stepped (odd_clock m t.trigger.resting)) t.odd)

module _ (m : TimerModes) (w : Fired) (t : Timers) (k : ℕ) where
  pub firing_after : firing m (times k (stepped m) t) ≡ reported (one_after k t) (even_after m k t) (odd_after m k t)
  firing_after = ap (firing m) (times_stepped k m t)

  pub parts_quiet : (one_after k t && w.one) ≡ false → DuoQuiet (even_after m k t) (even_watch w) → DuoQuiet (odd_after m k t) (odd_watch w)
      → Quiet (firing m (times k (stepped m) t)) w
  parts_quiet q f g = let P : Fired → Type 0 = λ x. Quiet x w in
      subst P (sym firing_after) (reported_quiet (one_after k t) (even_after m k t) (odd_after m k t) w q f g)

  pub parts_heard : ((one_after k t && w.one) ≡ true)
      ⊎ ((duo_heard (even_after m k t) (even_watch w) ≡ true) ⊎ (duo_heard (odd_after m k t) (odd_watch w) ≡ true))
      → heard (firing m (times k (stepped m) t)) w ≡ true
  parts_heard q = ap (λ x. heard x w) firing_after ∙ reported_heard (one_after k t) (even_after m k t) (odd_after m k t) w q

-- The least of three is one of them.
min_of_three : (x y z : ℕ) → (min x (min y z) ≡ x) ⊎ ((min x (min y z) ≡ y) ⊎ (min x (min y z) ≡ z))
min_of_three x y z =
    elim (min_choice x (min y z)) [
      | inl e ↦ inl e
      | inr e ↦ (elim (min_choice y z) [ inl f ↦ inr (inl (e ∙ f)) | inr f ↦ inr (inr (e ∙ f)) ])
    ]

-- The least of the parts' waits is a wait of the whole.
module _ (m : TimerModes) (w : Fired) (t : Timers) (x y z r : ℕ) (least : r ≡ min x (min y z)) where
  pub whole_quiet : ((k : ℕ) → k < x → (one_after k t && w.one) ≡ false)
      → ((k : ℕ) → k < y → DuoQuiet (even_after m k t) (even_watch w))
      → ((k : ℕ) → k < z → DuoQuiet (odd_after m k t) (odd_watch w))
      → (k : ℕ) → k < r → Quiet (firing m (times k (stepped m) t)) w
  whole_quiet p e o k h =
      parts_quiet m w t k (p k (omega (arith, h, least))) (e k (omega (arith, h, least))) (o k (omega (arith, h, least)))

  one_of_parts : (r ≡ x) ⊎ ((r ≡ y) ⊎ (r ≡ z))
      → (x < far → (one_after x t && w.one) ≡ true)
      → (y < far → duo_heard (even_after m y t) (even_watch w) ≡ true)
      → (z < far → duo_heard (odd_after m z t) (odd_watch w) ≡ true)
      → r < far → heard (firing m (times r (stepped m) t)) w ≡ true
  one_of_parts (inl i) p e o f = parts_heard m w t r (inl (rw i (p (rw i at f))))
  one_of_parts (inr (inl i)) p e o f = parts_heard m w t r (inr (inl (rw i (e (rw i at f)))))
  one_of_parts (inr (inr i)) p e o f = parts_heard m w t r (inr (inr (rw i (o (rw i at f)))))

  pub whole_ends : (x < far → (one_after x t && w.one) ≡ true)
      → (y < far → duo_heard (even_after m y t) (even_watch w) ≡ true)
      → (z < far → duo_heard (odd_after m z t) (odd_watch w) ≡ true)
      → r < far → heard (firing m (times r (stepped m) t)) w ≡ true
  whole_ends = let P : ℕ → Type 0 = λ v. (v ≡ x) ⊎ ((v ≡ y) ⊎ (v ≡ z)) in one_of_parts (subst P (sym least) (min_of_three x y z))

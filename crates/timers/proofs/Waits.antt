-- The wait of a count, a timer and a duo: quiet before its end, a request at it.
use Rattle.std.proofs.Common.{◌≡◌, ℕ, ◌-◌, ◌<◌, min, Bool, true, false, ◌&&◌, ◌⊎◌, refl, ap, ◌∙◌, inl, inr, arith}
use mathlib.Core.Bool.{or-true}
use Rattle.std.proofs.lemmas.Bool.Decides.{nat_tests}
use Rattle.std.proofs.lemmas.Bool.{and_right, cases_lt}
use Rattle.timing.specs.Run.{times, when}
use Rattle.timers.specs.declared.duo.Duo.{Duo}
use Rattle.timers.specs.declared.duo.Units.{Units}
use Rattle.timers.specs.declared.duo.Drive.TheVariants.{Apart, Joined}
use Rattle.timers.specs.Counts.{lowered, fires, distance, wait, far}
use Rattle.timers.specs.Duos.{value_of, duo_stepped, duo_fired, DuoQuiet, duo_heard}
use Rattle.timers.proofs.Lowering.{fires_at}
use Rattle.timers.proofs.Laps.{pair_value, apart_times}

module _ (m c : ℕ) (wide : 1 < m) (below : c < m) where
  early : (k : ℕ) → k < distance m c - 1 → fires (times k (lowered m) c) ≡ false
  early k h = fires_at m k c wide below (omega (arith, h)) ∙ grind (arith, nat_tests)

  last : fires (times (distance m c - 1) (lowered m) c) ≡ true
  last =
      let p : 0 < distance m c = grind (arith, nat_tests) in
      fires_at m (distance m c - 1) c wide below (omega (arith, p)) ∙ grind (arith, nat_tests)

  -- A count that may be off, and may be watched.
  pub count_quiet : (on w : Bool) (k : ℕ) → k < wait (on && w) m c → ((on && fires (times k (when on (lowered m)) c)) && w) ≡ false
  count_quiet false w k h = refl
  count_quiet true false k h = and_right (fires (times k (lowered m) c)) false refl
  count_quiet true true k h = let f = early k h in grind (arith, nat_tests)

  pub count_ends : (on w : Bool) → wait (on && w) m c < far → ((on && fires (times (wait (on && w) m c) (when on (lowered m)) c)) && w) ≡ true
  count_ends false w h = absurd (omega arith)
  count_ends true false h = absurd (omega arith)
  count_ends true true h = let f = last in grind (arith, nat_tests)

-- The least of two is one of them.
pub min_choice : (x y : ℕ) → (min x y ≡ x) ⊎ (min x y ≡ y)
min_choice x y = elim (cases_lt x y) [ inl h ↦ inl (omega (arith, h)) | inr h ↦ inr (omega (arith, h)) ]

-- Apart, a duo is quiet where both timers are, and heard where one is.
module _ (a b : Bool) (w : Units) (d : Duo) (k : ℕ) where
  pub apart_quiet : ((a && fires (times k (when a (lowered 256)) d.low.count)) && w.low) ≡ false
      → ((b && fires (times k (when b (lowered 256)) d.high.count)) && w.high) ≡ false
      → DuoQuiet (duo_fired (Apart a b) (times k (duo_stepped (Apart a b)) d)) w
  apart_quiet p q = rw (apart_times k a b d) (record { low = p; high = q; pair = refl })

  pub apart_heard : (((a && fires (times k (when a (lowered 256)) d.low.count)) && w.low) ≡ true)
      ⊎ (((b && fires (times k (when b (lowered 256)) d.high.count)) && w.high) ≡ true)
      → duo_heard (duo_fired (Apart a b) (times k (duo_stepped (Apart a b)) d)) w ≡ true
  apart_heard (inl p) = rw (apart_times k a b d) (rw p refl)
  apart_heard (inr p) = rw (apart_times k a b d) (rw p (or-true _))

-- Joined, it is the one count that tells.
module _ (on : Bool) (w : Units) (d : Duo) (k : ℕ) where
  pub joined_quiet : ((on && fires (times k (when on (lowered 65536)) (value_of d))) && w.pair) ≡ false
      → DuoQuiet (duo_fired (Joined on) (times k (duo_stepped (Joined on)) d)) w
  joined_quiet p = record { low = refl; high = refl; pair = ap (λ v. (on && fires v) && w.pair) (pair_value k on d) ∙ p }

  pub joined_heard : ((on && fires (times k (when on (lowered 65536)) (value_of d))) && w.pair) ≡ true
      → duo_heard (duo_fired (Joined on) (times k (duo_stepped (Joined on)) d)) w ≡ true
  joined_heard p = ap (λ v. (on && fires v) && w.pair) (pair_value k on d) ∙ p

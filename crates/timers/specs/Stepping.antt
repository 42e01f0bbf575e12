-- The five timers under the timer clock and the counted edges.
use Rattle.std.specs.Prelude.{◌≡◌, ℕ, min, Bool, false, not, ◌&&◌, ◌||◌}
use Rattle.timers.specs.declared.duo.Units.{Units}
use Rattle.timers.specs.declared.duo.Drive.{Drive}
use Rattle.timers.specs.declared.modes.TimerModes.{TimerModes}
use Rattle.timers.specs.declared.modes.DuoModes.{DuoModes}
use Rattle.timers.specs.declared.modes.Side.{Side}
use Rattle.timers.specs.declared.modes.Side.TheVariants.{Even, Odd}
use Rattle.timers.specs.declared.modes.Fired.{Fired}
use Rattle.timers.specs.declared.timers.Timers.{Timers}
use Rattle.timers.specs.Counts.{fires, wait, ticked, lapsed}
use Rattle.timers.specs.Duos.{driven, duo_stepped, duo_lapsed, duo_fired, duo_wait}

-- The clock drives the low timer of a duo unless it counts edges, and the high one unless it rests.
abbrev pub by_clock : DuoModes → Bool → Drive
by_clock d rests = driven d.joined (not d.counts_edges) (not rests)

-- A counted edge drives the low timer, and the high one only as its pair and unless it rests.
abbrev pub by_edge : DuoModes → Bool → Drive
by_edge d rests = driven d.joined d.counts_edges (d.joined && not rests)

-- The clock drives timer 2 unless it counts edges, and timer 4: neither ever rests.
abbrev pub even_clock : TimerModes → Drive
even_clock m = by_clock m.even false

-- The clock drives timer 3 unless it counts edges, and timer 5 unless it rests.
abbrev pub odd_clock : TimerModes → Bool → Drive
odd_clock m rests = by_clock m.odd rests

-- A counted edge drives timer 2, and timer 4 only as its pair.
abbrev pub even_edge : TimerModes → Drive
even_edge m = by_edge m.even false

-- A counted edge drives timer 3, and timer 5 only as its pair and unless it rests.
abbrev pub odd_edge : TimerModes → Bool → Drive
odd_edge m rests = by_edge m.odd rests

-- The levels on which timer 1 and the units of the duos request: the pair 2 and 4 as timer 4, the pair 3 and 5 as timer 3.
abbrev pub reported : Bool → Units → Units → Fired
reported first e o = record { one = first; two = e.low; three = o.low || o.pair; four = e.high || e.pair; five = o.high }

-- No unit.
abbrev pub silent : Units
silent = record { low = false; high = false; pair = false }

-- No timer.
abbrev pub no_timer : Fired
no_timer = record { one = false; two = false; three = false; four = false; five = false }

-- The timers after one step of the timer clock.
abbrev pub stepped : TimerModes → Timers → Timers
stepped m t =
    record {
      one = ticked t.one;
      even = duo_stepped (even_clock m) t.even;
      odd = duo_stepped (odd_clock m t.trigger.resting) t.odd;
      trigger = t.trigger;
    }

-- Which timers a step of the timer clock takes from 1 to 0.
abbrev pub firing : TimerModes → Timers → Fired
firing m t = reported (fires t.one.count) (duo_fired (even_clock m) t.even) (duo_fired (odd_clock m t.trigger.resting) t.odd)

-- The timers n steps on: each driven count (c − n) mod 256, each driven pair (c − n) mod 65,536.
abbrev pub all_lapsed : TimerModes → ℕ → Timers → Timers
all_lapsed m n t =
    record {
      one = lapsed n t.one;
      even = duo_lapsed (even_clock m) n t.even;
      odd = duo_lapsed (odd_clock m t.trigger.resting) n t.odd;
      trigger = t.trigger;
    }

-- The units of timers 2 and 4 that are watched through the levels.
abbrev pub even_watch : Fired → Units
even_watch w = record { low = w.two; high = w.four; pair = w.four }

-- The units of timers 3 and 5 that are watched through the levels.
abbrev pub odd_watch : Fired → Units
odd_watch w = record { low = w.three; high = w.five; pair = w.three }

-- The steps before the one in which a watched timer requests, or `far` where none does: the least over timer 1 and the duos.
abbrev pub quiet_for : TimerModes → Fired → Timers → ℕ
quiet_for m w t =
    min (wait w.one 256 t.one.count)
    (min (duo_wait (even_clock m) (even_watch w) t.even) (duo_wait (odd_clock m t.trigger.resting) (odd_watch w) t.odd))

-- No watched timer requests.
pub record Quiet (f w : Fired) : Type 0 where
  pub one : (f.one && w.one) ≡ false
  pub two : (f.two && w.two) ≡ false
  pub three : (f.three && w.three) ≡ false
  pub four : (f.four && w.four) ≡ false
  pub five : (f.five && w.five) ≡ false

-- Some watched timer requests.
abbrev pub heard : Fired → Fired → Bool
heard f w = (f.one && w.one) || ((f.two && w.two) || ((f.three && w.three) || ((f.four && w.four) || (f.five && w.five))))

-- The modes of a duo.
abbrev pub modes_at : Side → TimerModes → DuoModes
modes_at Even m = m.even
modes_at Odd m = m.odd

-- The timers after a counted edge of timer 2, or of the pair 2 and 4; of timer 3, or of the pair 3 and 5.
abbrev pub edge_counted : Side → TimerModes → Timers → Timers
edge_counted Even m t = record t { even = duo_stepped (even_edge m) t.even }
edge_counted Odd m t = record t { odd = duo_stepped (odd_edge m t.trigger.resting) t.odd }

-- Which timers that edge takes from 1 to 0.
abbrev pub edge_firing : Side → TimerModes → Timers → Fired
edge_firing Even m t = reported false (duo_fired (even_edge m) t.even) silent
edge_firing Odd m t = reported false silent (duo_fired (odd_edge m t.trigger.resting) t.odd)

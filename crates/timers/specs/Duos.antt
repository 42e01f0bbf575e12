-- Two timers that step each on its own, or as one of 16 bits.
use Rattle.std.specs.Prelude.{◌≡◌, ℕ, ◌+◌, ◌*◌, ◌/◌, ◌%◌, min, Bool, false, cond, ◌&&◌, ◌||◌}
use Rattle.timing.specs.Run.{when}
use Rattle.timers.specs.declared.duo.Duo.{Duo}
use Rattle.timers.specs.declared.duo.Units.{Units}
use Rattle.timers.specs.declared.duo.Drive.{Drive}
use Rattle.timers.specs.declared.duo.Drive.TheVariants.{Apart, Joined}
use Rattle.timers.specs.Counts.{lowered, fires, behind, wait, ticked, lapsed}

-- Joined, the two step only where both may.
abbrev pub driven : Bool → Bool → Bool → Drive
driven joined l h = cond joined (Joined (l && h)) (Apart l h)

-- The joined count: the high timer's byte above the low one's.
abbrev pub value_of : Duo → ℕ
value_of d = d.high.count * 256 + d.low.count

-- The two timers of a joined count.
abbrev pub parted : ℕ → Duo
parted v = record { low = record { count = v % 256 }; high = record { count = v / 256 } }

-- The joined count one step on.
abbrev pub pair_ticked : Duo → Duo
pair_ticked d = parted (lowered 65536 (value_of d))

-- The joined count n steps on.
abbrev pub pair_lapsed : ℕ → Duo → Duo
pair_lapsed n d = parted (behind 65536 n (value_of d))

-- One step under a drive.
abbrev pub duo_stepped : Drive → Duo → Duo
duo_stepped (Apart l h) d = record { low = when l ticked d.low; high = when h ticked d.high }
duo_stepped (Joined on) d = when on pair_ticked d

-- n steps under a drive.
abbrev pub duo_lapsed : Drive → ℕ → Duo → Duo
duo_lapsed (Apart l h) n d = record { low = when l (lapsed n) d.low; high = when h (lapsed n) d.high }
duo_lapsed (Joined on) n d = when on (pair_lapsed n) d

-- Which units a step under a drive takes from 1 to 0.
abbrev pub duo_fired : Drive → Duo → Units
duo_fired (Apart l h) d = record { low = l && fires d.low.count; high = h && fires d.high.count; pair = false }
duo_fired (Joined on) d = record { low = false; high = false; pair = on && fires (value_of d) }

-- The steps before the one in which a watched unit requests, or `far` where none does.
abbrev pub duo_wait : Drive → Units → Duo → ℕ
duo_wait (Apart l h) w d = min (wait (l && w.low) 256 d.low.count) (wait (h && w.high) 256 d.high.count)
duo_wait (Joined on) w d = wait (on && w.pair) 65536 (value_of d)

-- No watched unit requests.
pub record DuoQuiet (f w : Units) : Type 0 where
  pub low : (f.low && w.low) ≡ false
  pub high : (f.high && w.high) ≡ false
  pub pair : (f.pair && w.pair) ≡ false

-- Some watched unit requests.
abbrev pub duo_heard : Units → Units → Bool
duo_heard f w = (f.low && w.low) || ((f.high && w.high) || (f.pair && w.pair))

-- Loading and reading the timers, and the trigger mode of timer 5.
use Rattle.std.specs.Prelude.{ℕ, Bool, true, false, cond, List, [], ◌∷◌}
use Rattle.timing.specs.Run.{when}
use Rattle.timers.specs.declared.timer.Timer.{Timer}
use Rattle.timers.specs.declared.modes.TimerModes.{TimerModes}
use Rattle.timers.specs.declared.modes.Number.{Number}
use Rattle.timers.specs.declared.modes.Number.TheVariants.{One, Two, Three, Four, Five}
use Rattle.timers.specs.declared.timers.Timers.{Timers}

-- A timer that holds a byte.
abbrev pub holding : ℕ → Timer
holding b = record { count = b }

-- All counts 0, nothing saved, no rest.
abbrev pub cleared_timers : Timers
cleared_timers =
    record {
      one = holding 0;
      even = record { low = holding 0; high = holding 0 };
      odd = record { low = holding 0; high = holding 0 };
      trigger = record { save = 0; resting = false };
    }

-- The count of a timer: 2 and 3 are the low ones of their duos.
abbrev pub count_of : Number → Timers → ℕ
count_of One t = t.one.count
count_of Two t = t.even.low.count
count_of Three t = t.odd.low.count
count_of Four t = t.even.high.count
count_of Five t = t.odd.high.count

-- A byte written to timer 5: saved for the trigger under T5C, else its count.
abbrev pub written_five : Bool → ℕ → Timers → Timers
written_five t5c b t =
    record t {
      odd = record t.odd { high = cond t5c t.odd.high (holding b) };
      trigger = record t.trigger { save = cond t5c b t.trigger.save };
    }

-- A byte written to a timer is its count, and no other timer changes.
abbrev pub written : Number → ℕ → Bool → Timers → Timers
written One b t5c t = record t { one = holding b }
written Two b t5c t = record t { even = record t.even { low = holding b } }
written Three b t5c t = record t { odd = record t.odd { low = holding b } }
written Four b t5c t = record t { even = record t.even { high = holding b } }
written Five b t5c t = written_five t5c b t

-- The trigger loads timer 5 with the saved byte, its pair's low timer with 255, and ends the rest.
abbrev pub restarted : Bool → Timers → Timers
restarted joined t =
    record t {
      odd = record { low = cond joined (holding 255) t.odd.low; high = holding t.trigger.save };
      trigger = record t.trigger { resting = false };
    }

-- A fall of the trigger pin counts only under T5C.
abbrev pub triggered : TimerModes → Timers → Timers
triggered m t = when m.t5c (restarted m.odd.joined) t

-- T5C turned on starts the rest, left on keeps it, off ends it.
abbrev pub rest_after : Bool → Bool → Bool → Bool
rest_after was is rests = cond is (cond was rests true) false

-- The timers after a write that takes T5C from one state to another.
abbrev pub selected : Bool → Bool → Timers → Timers
selected was is t = record t { trigger = record t.trigger { resting = rest_after was is t.trigger.resting } }

-- The counts in the order of the timers 1 to 5.
abbrev pub counts_of : Timers → List ℕ
counts_of t = count_of One t ∷ count_of Two t ∷ count_of Three t ∷ count_of Four t ∷ count_of Five t ∷ []

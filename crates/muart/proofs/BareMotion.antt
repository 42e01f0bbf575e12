-- What moves in a clock that records nothing: dividers, counts, and ticks within a bit.
use Rattle.std.proofs.Common.{◌≡◌, ℕ, zero, suc, Bool, true, false, None, sym, refl, ap, ◌∙◌}
use Rattle.timing.specs.Run.{times, when}
use Rattle.timing.specs.Accumulator.{wraps, next, turns}
use Rattle.timing.proofs.Driven.{Drives, splits}
use Rattle.timing.proofs.Bare.{both_times, when_put, when_same, when_alike}
use Rattle.timers.specs.Stepping.{stepped, firing, Quiet}
use Rattle.serial.specs.declared.transmitter.Transmitter.{Transmitter}
use Rattle.serial.specs.declared.receiver.Receiver.{Receiver}
use Rattle.serial.specs.Sending.{ending, ticked}
use Rattle.serial.specs.Receiving.{passed, told}
use Rattle.muart.specs.declared.state.StandIn.{StandIn}
use Rattle.muart.specs.Firing.{modes_of, watched, asks}
use Rattle.muart.specs.Serial.{form_in, rate_in, reception_kept, serial_tick}
use Rattle.muart.specs.State.{with_timers, with_mask, with_requests, with_steps, with_remainder, with_serial, with_transmitter, with_receiver}
use Rattle.muart.specs.Clock.{timer_step, divide_in, timed, rate_modulus, rated}
use Rattle.muart.proofs.QuietFiring.{requests_kept, levels_kept}

-- the timers step
abbrev pub timer_bare : StandIn → StandIn
timer_bare s = with_timers (stepped (modes_of s.rest.registers) s.rest.timers) s

-- a transmitter and a receiver in the place of those that stand there
abbrev pub with_both : Transmitter → Receiver → StandIn → StandIn
with_both t r s = with_serial (record s.rest.serial { transmitter = t; receiver = r }) s

-- the transmitter and the receiver tick
abbrev pub serial_bare : StandIn → StandIn
serial_bare s = with_both (ticked (form_in s) s.rest.pins.cts s.rest.serial.transmitter) (passed s.rest.serial.rxd s.rest.serial.receiver) s

abbrev pub timed_bare : StandIn → StandIn
timed_bare s = when (wraps 1 (divide_in s) s.rest.dividers.steps.at) timer_bare (with_steps (next 1 (divide_in s) s.rest.dividers.steps.at) s)

abbrev pub rated_bare : StandIn → StandIn
rated_bare s = when (wraps (rate_in s) rate_modulus s.rest.dividers.remainder.at) serial_bare (with_remainder (next (rate_in s) rate_modulus s.rest.dividers.remainder.at) s)

-- an internal clock that records nothing
abbrev pub bare : StandIn → StandIn
bare s = rated_bare (timed_bare s)

-- a timer step that records nothing
pub step_quiet : (s : StandIn) → Quiet (firing (modes_of s.rest.registers) s.rest.timers) (watched s.rest.registers s.rest.mask s.sensitive.levels.requests) → timer_step s ≡ timer_bare s
unfolding timer_step
step_quiet s q =
    let f = firing (modes_of s.rest.registers) s.rest.timers in
    λ i. with_timers (stepped (modes_of s.rest.registers) s.rest.timers)
    (with_mask (levels_kept s.rest.registers f s.rest.mask s.sensitive.levels.requests q i)
    (with_requests (requests_kept s.rest.registers f s.rest.mask s.sensitive.levels.requests q i) s))

-- a rate tick that records nothing
pub tick_quiet : (s : StandIn) → ending s.rest.serial.transmitter.phase ≡ false → told s.rest.serial.rxd s.rest.serial.receiver ≡ None → serial_tick s ≡ serial_bare s
unfolding serial_tick
tick_quiet s e t =
    λ i. reception_kept (t i) (with_receiver (passed s.rest.serial.rxd s.rest.serial.receiver) (asks (e i) 5 (with_transmitter (ticked (form_in s) s.rest.pins.cts s.rest.serial.transmitter) s)))

-- the step divider drives the timers, and the remainder the serial side
timers_driven : Drives (λ s. 1) divide_in (λ s. s.rest.dividers.steps.at) with_steps timer_bare
timers_driven = record {
  step_put = λ a s. refl;
  modulus_put = λ a s. refl;
  phase_put = λ a s. refl;
  put_put = λ a b s. refl;
  put_phase = λ s. refl;
  step_move = λ s. refl;
  modulus_move = λ s. refl;
  move_put = λ a s. refl;
}

serial_driven : Drives rate_in (λ s. rate_modulus) (λ s. s.rest.dividers.remainder.at) with_remainder serial_bare
serial_driven = record {
  step_put = λ a s. refl;
  modulus_put = λ a s. refl;
  phase_put = λ a s. refl;
  put_put = λ a b s. refl;
  put_phase = λ s. refl;
  step_move = λ s. refl;
  modulus_move = λ s. refl;
  move_put = λ a s. refl;
}

timers_many : (k : ℕ) (s : StandIn) → times k timer_bare s ≡ with_timers (times k (stepped (modes_of s.rest.registers)) s.rest.timers) s
timers_many zero s = refl
timers_many (suc k) s = timers_many k (timer_bare s)

serial_many : (k : ℕ) (s : StandIn) → times k serial_bare s ≡ with_both (times k (ticked (form_in s) s.rest.pins.cts) s.rest.serial.transmitter) (times k (passed s.rest.serial.rxd) s.rest.serial.receiver) s
serial_many zero s = refl
serial_many (suc k) s = serial_many k (serial_bare s)

-- the two do not meet
meet_at : (b : Bool) (a : ℕ) (x : StandIn) → rated_bare (when b timer_bare (with_steps a x)) ≡ when b timer_bare (with_steps a (rated_bare x))
meet_at true a x = when_put (wraps (rate_in x) rate_modulus x.rest.dividers.remainder.at) serial_bare (λ z. timer_bare (with_steps a z)) (with_remainder (next (rate_in x) rate_modulus x.rest.dividers.remainder.at) x) refl
meet_at false a x = when_put (wraps (rate_in x) rate_modulus x.rest.dividers.remainder.at) serial_bare (with_steps a) (with_remainder (next (rate_in x) rate_modulus x.rest.dividers.remainder.at) x) refl

apart : (x : StandIn) → rated_bare (timed_bare x) ≡ timed_bare (rated_bare x)
apart x =
    let ticks = wraps (rate_in x) rate_modulus x.rest.dividers.remainder.at in
    let rest = with_remainder (next (rate_in x) rate_modulus x.rest.dividers.remainder.at) x in
    let d : divide_in (rated_bare x) ≡ divide_in x = when_same ticks serial_bare divide_in rest refl in
    let p : (rated_bare x).rest.dividers.steps.at ≡ x.rest.dividers.steps.at = when_same ticks serial_bare (λ z. z.rest.dividers.steps.at) rest refl in
    meet_at (wraps 1 (divide_in x) x.rest.dividers.steps.at) (next 1 (divide_in x) x.rest.dividers.steps.at) x
    ∙ (λ i. when (wraps 1 (sym d i) (sym p i)) timer_bare (with_steps (next 1 (sym d i) (sym p i)) (rated_bare x)))

-- where k bare internal clocks leave the stand-in
abbrev pub landing : ℕ → StandIn → StandIn
landing k s =
    with_remainder (times k (next (rate_in s) rate_modulus) s.rest.dividers.remainder.at)
    (with_both (times (turns (rate_in s) rate_modulus k s.rest.dividers.remainder.at) (ticked (form_in s) s.rest.pins.cts) s.rest.serial.transmitter)
    (times (turns (rate_in s) rate_modulus k s.rest.dividers.remainder.at) (passed s.rest.serial.rxd) s.rest.serial.receiver)
    (with_steps (times k (next 1 (divide_in s)) s.rest.dividers.steps.at)
    (with_timers (times (turns 1 (divide_in s) k s.rest.dividers.steps.at) (stepped (modes_of s.rest.registers)) s.rest.timers) s)))

pub lands : (k : ℕ) (s : StandIn) → times k bare s ≡ landing k s
lands k s =
    let after = with_steps (times k (next 1 (divide_in s)) s.rest.dividers.steps.at) (with_timers (times (turns 1 (divide_in s) k s.rest.dividers.steps.at) (stepped (modes_of s.rest.registers)) s.rest.timers) s) in
    both_times timed_bare rated_bare apart k s
    ∙ ap (times k rated_bare) (splits _ _ _ _ _ timers_driven k 1 (divide_in s) s.rest.dividers.steps.at s refl refl refl ∙ ap (with_steps _) (timers_many (turns 1 (divide_in s) k s.rest.dividers.steps.at) s))
    ∙ splits _ _ _ _ _ serial_driven k (rate_in s) rate_modulus s.rest.dividers.remainder.at after refl refl refl
    ∙ ap (with_remainder _) (serial_many (turns (rate_in s) rate_modulus k s.rest.dividers.remainder.at) after)

-- an internal clock whose step and tick record nothing
timed_quiet : (x : StandIn) → (wraps 1 (divide_in x) x.rest.dividers.steps.at ≡ true → Quiet (firing (modes_of x.rest.registers) x.rest.timers) (watched x.rest.registers x.rest.mask x.sensitive.levels.requests)) → timed x ≡ timed_bare x
timed_quiet x q =
    when_alike (wraps 1 (divide_in x) x.rest.dividers.steps.at) timer_step timer_bare (with_steps (next 1 (divide_in x) x.rest.dividers.steps.at) x)
    (λ w. step_quiet (with_steps (next 1 (divide_in x) x.rest.dividers.steps.at) x) (q w))

rated_quiet : (b : Bool) (a : ℕ) (x : StandIn) → (wraps (rate_in x) rate_modulus x.rest.dividers.remainder.at ≡ true → (ending x.rest.serial.transmitter.phase ≡ false) × (told x.rest.serial.rxd x.rest.serial.receiver ≡ None)) → rated (when b timer_bare (with_steps a x)) ≡ rated_bare (when b timer_bare (with_steps a x))
rated_quiet true a x q = when_alike (wraps (rate_in x) rate_modulus x.rest.dividers.remainder.at) serial_tick serial_bare _ (λ w. tick_quiet _ (q w).0 (q w).1)
rated_quiet false a x q = when_alike (wraps (rate_in x) rate_modulus x.rest.dividers.remainder.at) serial_tick serial_bare _ (λ w. tick_quiet _ (q w).0 (q w).1)

pub internal_quiet : (x : StandIn)
    → (wraps 1 (divide_in x) x.rest.dividers.steps.at ≡ true → Quiet (firing (modes_of x.rest.registers) x.rest.timers) (watched x.rest.registers x.rest.mask x.sensitive.levels.requests))
    → (wraps (rate_in x) rate_modulus x.rest.dividers.remainder.at ≡ true → (ending x.rest.serial.transmitter.phase ≡ false) × (told x.rest.serial.rxd x.rest.serial.receiver ≡ None))
    → rated (timed x) ≡ bare x
internal_quiet x q r = ap rated (timed_quiet x q) ∙ rated_quiet (wraps 1 (divide_in x) x.rest.dividers.steps.at) (next 1 (divide_in x) x.rest.dividers.steps.at) x r

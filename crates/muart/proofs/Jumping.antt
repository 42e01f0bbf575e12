-- Many clocks at once.
use Rattle.std.proofs.Common.{◌≡◌, ℕ, ◌<◌, ◌≤◌, min, Bool, false, Some, None, Option, sym, refl, ap, ◌∙◌, subst, zero-mul, arith}
use Rattle.timing.specs.declared.accumulator.Accumulator.{Accumulator}
use Rattle.timing.specs.Run.{times}
use Rattle.timing.specs.Accumulator.{wraps, next, turns, reached}
use Rattle.timing.proofs.Driven.{Drives, splits}
use Rattle.timing.proofs.Turns.{turns_below}
use Rattle.timing.proofs.Bare.{times_bare, turns_before, when_put, when_same}
use Rattle.timers.specs.declared.timers.Timers.{Timers}
use Rattle.timers.specs.declared.modes.TimerModes.{TimerModes}
use Rattle.timers.specs.declared.modes.Fired.{Fired}
use Rattle.timers.specs.Counts.{far}
use Rattle.timers.specs.Stepping.{stepped, Quiet, firing, quiet_for}
use Rattle.serial.specs.declared.form.Form.{Form}
use Rattle.serial.specs.declared.transmitter.Transmitter.{Transmitter}
use Rattle.serial.specs.declared.receiver.Receiver.{Receiver}
use Rattle.serial.specs.declared.receiver.Reception.{Reception}
use Rattle.serial.specs.Sending.{ending, ticked, level, quiet_ticks as sending_ticks}
use Rattle.serial.specs.Receiving.{passed, told, quiet_ticks as receiving_ticks}
use Rattle.serial.specs.Lines.{after}
use Rattle.serial.proofs.Silent.{silent_ending, silent_ticked, silent_told, silent_level, steady}
use Rattle.muart.specs.declared.state.StandIn.{StandIn}
use Rattle.muart.specs.Firing.{modes_of, watched}
use Rattle.muart.specs.Reading.{int_high}
use Rattle.muart.specs.Serial.{form_in, rate_in, txd_level, reception_kept, serial_tick}
use Rattle.muart.specs.State.{with_timers, with_dividers, with_steps, with_prescaler, with_remainder}
use Rattle.muart.specs.Clock.{timer_step, divide_in, timed, rate_modulus, rated, internal_clock, prescale_in, clocked, internals_in, steps_in, ticks_in, quiet_steps, quiet_rate_ticks, quiet_at_rate, quiet_internals, quiet_clocks, QuietSteps, Still}
use Rattle.muart.proofs.BareMotion.{with_both, bare, landing, lands, internal_quiet}

-- what a reception does leaves the prescaler alone
kept_put : (o : Option Reception) (a : ℕ) (s : StandIn) → reception_kept o (with_prescaler a s) ≡ with_prescaler a (reception_kept o s)
kept_put None a s = refl
kept_put (Some r) a s = refl

kept_same : (o : Option Reception) (s : StandIn) → prescale_in (reception_kept o s) ≡ prescale_in s
kept_same None s = refl
kept_same (Some r) s = refl

tick_put : (a : ℕ) (s : StandIn) → serial_tick (with_prescaler a s) ≡ with_prescaler a (serial_tick s)
unfolding serial_tick
tick_put a s = kept_put (told s.rest.serial.rxd s.rest.serial.receiver) a _

tick_same : (s : StandIn) → prescale_in (serial_tick s) ≡ prescale_in s
unfolding serial_tick
tick_same s = kept_same (told s.rest.serial.rxd s.rest.serial.receiver) _

step_put : (a : ℕ) (s : StandIn) → timer_step (with_prescaler a s) ≡ with_prescaler a (timer_step s)
unfolding timer_step
step_put a s = refl

step_same : (s : StandIn) → prescale_in (timer_step s) ≡ prescale_in s
unfolding timer_step
step_same s = refl

timed_put : (a : ℕ) (s : StandIn) → timed (with_prescaler a s) ≡ with_prescaler a (timed s)
timed_put a s =
    let x = with_steps (next 1 (divide_in s) s.rest.dividers.steps.at) s in
    when_put (wraps 1 (divide_in s) s.rest.dividers.steps.at) timer_step (with_prescaler a) x (step_put a x)

timed_same : (s : StandIn) → prescale_in (timed s) ≡ prescale_in s
timed_same s =
    let x = with_steps (next 1 (divide_in s) s.rest.dividers.steps.at) s in
    when_same (wraps 1 (divide_in s) s.rest.dividers.steps.at) timer_step prescale_in x (step_same x)

rated_put : (a : ℕ) (s : StandIn) → rated (with_prescaler a s) ≡ with_prescaler a (rated s)
rated_put a s =
    let x = with_remainder (next (rate_in s) rate_modulus s.rest.dividers.remainder.at) s in
    when_put (wraps (rate_in s) rate_modulus s.rest.dividers.remainder.at) serial_tick (with_prescaler a) x (tick_put a x)

rated_same : (s : StandIn) → prescale_in (rated s) ≡ prescale_in s
rated_same s =
    let x = with_remainder (next (rate_in s) rate_modulus s.rest.dividers.remainder.at) s in
    when_same (wraps (rate_in s) rate_modulus s.rest.dividers.remainder.at) serial_tick prescale_in x (tick_same x)

internal_put : (a : ℕ) (s : StandIn) → internal_clock (with_prescaler a s) ≡ with_prescaler a (internal_clock s)
unfolding internal_clock
internal_put a s = ap rated (timed_put a s) ∙ rated_put a (timed s)

internal_same : (s : StandIn) → prescale_in (internal_clock s) ≡ prescale_in s
unfolding internal_clock
internal_same s = rated_same (timed s) ∙ timed_same s

-- the prescaler drives the internal clock
internal_driven : Drives (λ s. 1) prescale_in (λ s. s.rest.dividers.prescaler.at) with_prescaler internal_clock
internal_driven = record {
  step_put = λ a s. refl;
  modulus_put = λ a s. refl;
  phase_put = λ a s. refl;
  put_put = λ a b s. refl;
  put_phase = λ s. refl;
  step_move = λ s. refl;
  modulus_move = internal_same;
  move_put = internal_put;
}

clocks_split : (n : ℕ) (s : StandIn) → times n clocked s ≡ with_prescaler (times n (next 1 (prescale_in s)) s.rest.dividers.prescaler.at) (times (internals_in n s) internal_clock s)
unfolding clocked
clocks_split n s = splits _ _ _ _ _ internal_driven n 1 (prescale_in s) s.rest.dividers.prescaler.at s refl refl refl

module _ (k : ℕ) (s : StandIn) (steps : QuietSteps (steps_in k s) s) (sending : ticks_in k s ≤ sending_ticks s.rest.serial.transmitter.phase) (receiving : ticks_in k s ≤ receiving_ticks s.rest.serial.receiver) where
  -- the transmitter after j ticks that end nothing
  sends_on : (j : ℕ) → j < ticks_in k s → ending (times j (ticked (form_in s) s.rest.pins.cts) s.rest.serial.transmitter).phase ≡ false
  sends_on j h =
      ap (λ t. ending t.phase) (silent_ticked (form_in s) s.rest.pins.cts j s.rest.serial.transmitter (omega arith))
      ∙ silent_ending j s.rest.serial.transmitter.phase (omega arith)

  hears_on : (j : ℕ) → j < ticks_in k s → told s.rest.serial.rxd (times j (passed s.rest.serial.rxd) s.rest.serial.receiver) ≡ None
  hears_on j h = silent_told s.rest.serial.rxd j s.rest.serial.receiver (omega arith)

  one_quiet : (j : ℕ) → j < k → rated (timed (landing j s)) ≡ bare (landing j s)
  one_quiet j h =
      internal_quiet (landing j s)
      (λ w. steps (steps_in j s) (turns_before 1 (divide_in s) j k s.rest.dividers.steps.at h w))
      (λ w. let b = turns_before (rate_in s) rate_modulus j k s.rest.dividers.remainder.at h w in (sends_on (ticks_in j s) b, hears_on (ticks_in j s) b))

  still_internals : times k internal_clock s ≡ landing k s
  unfolding internal_clock
  still_internals = times_bare internal_clock bare k s (λ j h. ap internal_clock (lands j s) ∙ one_quiet j h ∙ ap bare (sym (lands j s))) ∙ lands k s

-- still clocks move dividers, counts and ticks within a bit, and nothing else
pub still_clocks : (n : ℕ) (s : StandIn) → Still n s → times n clocked s ≡ with_prescaler (times n (next 1 (prescale_in s)) s.rest.dividers.prescaler.at) (landing (internals_in n s) s)
still_clocks n s q =
    clocks_split n s ∙ ap (with_prescaler _) (still_internals (internals_in n s) s q.steps q.sending q.receiving)

-- so TxD and INT stay as they are
pub still_txd : (n : ℕ) (s : StandIn) → Still n s → txd_level (times n clocked s) ≡ txd_level s
still_txd n s q =
    ap txd_level (still_clocks n s q)
    ∙ ap (λ t. level t.phase) (silent_ticked (form_in s) s.rest.pins.cts (ticks_in (internals_in n s) s) s.rest.serial.transmitter q.sending)
    ∙ silent_level (ticks_in (internals_in n s) s) s.rest.serial.transmitter.phase q.sending

pub still_int : (n : ℕ) (s : StandIn) → Still n s → int_high (times n clocked s).rest (times n clocked s).sensitive ≡ int_high s.rest s.sensitive
still_int n s q = ap (λ x. int_high x.rest x.sensitive) (still_clocks n s q)

pub still_rxd : (n : ℕ) (s : StandIn) → Still n s → (times n clocked s).rest.serial.rxd ≡ s.rest.serial.rxd
still_rxd n s q = ap (λ x. x.rest.serial.rxd) (still_clocks n s q)

-- what the code computes on its way to n still clocks
pub record Skipped (n : ℕ) (s : StandIn) : Type 0 where
  pub p : ℕ
  pub d : ℕ
  pub k : ℕ
  pub j : ℕ
  pub u : ℕ
  pub r : ℕ
  pub m : TimerModes
  pub prescale_is : p ≡ prescale_in s
  pub divide_is : d ≡ divide_in s
  pub rate_is : r ≡ rate_in s
  pub modes_are : m ≡ modes_of s.rest.registers
  pub internals : k ≡ turns 1 p n s.rest.dividers.prescaler.at
  pub steps : j ≡ turns 1 d k s.rest.dividers.steps.at
  pub ticks : u ≡ turns r rate_modulus k s.rest.dividers.remainder.at

-- a stand-in whose parts stand where n still clocks leave them
pub skip_lands : (n : ℕ) (s : StandIn) (c : Skipped n s) (pre ste rem : Accumulator) (t : Timers) (x : Transmitter) (y : Receiver) → Still n s
    → pre.at ≡ times n (next 1 c.p) s.rest.dividers.prescaler.at
    → ste.at ≡ times c.k (next 1 c.d) s.rest.dividers.steps.at
    → t ≡ times c.j (stepped c.m) s.rest.timers
    → rem.at ≡ times c.k (next c.r rate_modulus) s.rest.dividers.remainder.at
    → ((form : Form) (cts : Bool) → x ≡ times c.u (ticked form cts) s.rest.serial.transmitter)
    → ((w : ℕ → Bool) → y ≡ after w c.u s.rest.serial.receiver)
    → with_dividers (record { prescaler = pre; steps = ste; remainder = rem }) (with_both x y (with_timers t s)) ≡ times n clocked s
skip_lands n s c pre ste rem t x y q ea eb et er ex ey =
    let f = form_in s in
    let cts = s.rest.pins.cts in
    let v = s.rest.serial.rxd in
    let k : c.k ≡ internals_in n s = c.internals ∙ ap (λ a. turns 1 a n s.rest.dividers.prescaler.at) c.prescale_is in
    let j : c.j ≡ steps_in (internals_in n s) s = c.steps ∙ (λ i. turns 1 (c.divide_is i) (k i) s.rest.dividers.steps.at) in
    let u : c.u ≡ ticks_in (internals_in n s) s = c.ticks ∙ (λ i. turns (c.rate_is i) rate_modulus (k i) s.rest.dividers.remainder.at) in
    let a = ea ∙ ap (λ m. times n (next 1 m) s.rest.dividers.prescaler.at) c.prescale_is in
    let b = eb ∙ (λ i. times (k i) (next 1 (c.divide_is i)) s.rest.dividers.steps.at) in
    let g = et ∙ (λ i. times (j i) (stepped (c.modes_are i)) s.rest.timers) in
    let o = er ∙ (λ i. times (k i) (next (c.rate_is i) rate_modulus) s.rest.dividers.remainder.at) in
    let h = ex f cts ∙ ap (λ m. times m (ticked f cts) s.rest.serial.transmitter) u in
    let l = ey (λ _. v) ∙ steady v c.u s.rest.serial.receiver ∙ ap (λ m. times m (passed v) s.rest.serial.receiver) u in
    (λ i. with_prescaler (a i) (with_remainder (o i) (with_both (h i) (l i) (with_steps (b i) (with_timers (g i) s))))) ∙ sym (still_clocks n s q)

-- a rate of 0 never ticks
pub no_tick : (r n at k : ℕ) → r ≡ 0 → at < rate_modulus → turns r rate_modulus n at ≤ k
no_tick r n at k e h =
    let z : turns 0 rate_modulus n at < 1 = turns_below 0 rate_modulus n 1 at (omega (arith, zero-mul n)) in
    let same : turns r rate_modulus n at ≡ turns 0 rate_modulus n at = ap (λ x. turns x rate_modulus n at) e in
    omega arith

-- what the code computes on its way to the horizon r
pub record Horizon (s : StandIn) (r : ℕ) : Type 0 where
  pub m : TimerModes
  pub w : Fired
  pub p : ℕ
  pub d : ℕ
  pub fires : ℕ
  pub steps : ℕ
  pub most : ℕ
  pub rate : ℕ
  pub least : ℕ
  pub internals : ℕ
  pub modes_are : m ≡ modes_of s.rest.registers
  pub watched_are : w ≡ watched s.rest.registers s.rest.mask s.sensitive.levels.requests
  pub prescale_is : p ≡ prescale_in s
  pub divide_is : d ≡ divide_in s
  pub fires_is : fires ≡ quiet_for m w s.rest.timers
  pub quiet : (k : ℕ) → k < fires → Quiet (firing m (times k (stepped m) s.rest.timers)) w
  pub steps_are : steps ≡ min far fires
  pub most_is : most ≡ reached 1 d steps s.rest.dividers.steps.at
  pub most_holds : (n : ℕ) → n ≤ most → turns 1 d n s.rest.dividers.steps.at ≤ steps
  pub rate_is : rate ≡ quiet_at_rate (rate_in s) s
  pub rate_holds : (n : ℕ) → n ≤ min far rate → ticks_in n s ≤ quiet_rate_ticks s
  pub least_is : least ≡ min most rate
  pub internals_are : internals ≡ min far least
  pub r_is : r ≡ reached 1 p internals s.rest.dividers.prescaler.at
  pub r_holds : (n : ℕ) → n ≤ r → turns 1 p n s.rest.dividers.prescaler.at ≤ internals

module _ (s : StandIn) (r : ℕ) (c : Horizon s r) where
  pub horizon_value : r ≡ quiet_clocks s
  horizon_value =
      let fires : c.fires ≡ quiet_for (modes_of s.rest.registers) (watched s.rest.registers s.rest.mask s.sensitive.levels.requests) s.rest.timers = c.fires_is ∙ (λ i. quiet_for (c.modes_are i) (c.watched_are i) s.rest.timers) in
      let steps : c.steps ≡ quiet_steps s = c.steps_are ∙ ap (min far) fires in
      let most : c.most ≡ reached 1 (divide_in s) (quiet_steps s) s.rest.dividers.steps.at = c.most_is ∙ (λ i. reached 1 (c.divide_is i) (steps i) s.rest.dividers.steps.at) in
      let internals : c.internals ≡ quiet_internals s = c.internals_are ∙ ap (min far) (c.least_is ∙ (λ i. min (most i) (c.rate_is i))) in
      c.r_is ∙ (λ i. reached 1 (c.prescale_is i) (internals i) s.rest.dividers.prescaler.at)

  pub horizon_still : (n : ℕ) → n ≤ r → Still n s
  horizon_still n h =
      let k : internals_in n s ≤ c.internals = subst (λ x. turns 1 x n s.rest.dividers.prescaler.at ≤ c.internals) c.prescale_is (c.r_holds n h) in
      let e = c.internals_are in
      let f = c.least_is in
      let j : steps_in (internals_in n s) s ≤ c.steps = subst (λ x. turns 1 x (internals_in n s) s.rest.dividers.steps.at ≤ c.steps) c.divide_is (c.most_holds (internals_in n s) (omega arith)) in
      let t : ticks_in (internals_in n s) s ≤ quiet_rate_ticks s = c.rate_holds (internals_in n s) (omega arith) in
      let g = c.steps_are in
      let w = c.w in
      record {
        steps = λ i l.
            subst (λ m. Quiet (firing m (times i (stepped m) s.rest.timers)) (watched s.rest.registers s.rest.mask s.sensitive.levels.requests)) c.modes_are
            (subst (Quiet (firing c.m (times i (stepped c.m) s.rest.timers))) c.watched_are (c.quiet i (omega arith)));
        sending = omega arith;
        receiving = omega arith;
      }

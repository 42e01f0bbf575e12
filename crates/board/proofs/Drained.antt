-- Standing requests drain.
use Rattle.std.proofs.Common.{◌≡◌, ℕ, zero, suc, ◌*◌, ◌<◌, ◌≤◌, Bool, true, false, cond, not, ◌&&◌, eqb, List, [], ◌∷◌, ◌++◌, map, length, get_or, drop, set, replicate, Some, None, Ok, Err, Option, Result, sym, refl, ap, ◌∙◌, subst, suc-le-suc, zero-le, le_of_suc-le-suc, not-suc-le-zero, arith, length-set}
use lib.ListN.{length-map}
use Rattle.std.proofs.Math.Seq.{drop-nil}
use Rattle.std.specs.List.{AllByRecursion}
use Rattle.std.proofs.lemmas.Bool.{both_ways}
use Rattle.std.proofs.lemmas.List.{get_or-map, get_or-append-add}
use Rattle.timing.specs.Run.{times}
use Rattle.timing.proofs.Repeats.{times_suc}
use Rattle.levels.specs.Sets.{lowest, levels, below, ended, paired}
use Rattle.levels.proofs.Stack.{closes, Clears, clears}
use Rattle.levels.specs.Levels.{taken, ready, requesting, Closed}
use Rattle.bits.specs.Bytes.{flags}
use Rattle.levels.specs.declared.pending.Pending.{Pending}
use Rattle.timers.specs.declared.timers.Timers.{Timers}
use Rattle.timers.specs.declared.modes.Fired.{Fired}
use Rattle.serial.specs.declared.receiver.Reception.{Reception}
use Rattle.serial.specs.Receiving.{told, fallen}
use Rattle.refusals.specs.declared.refusal.Refusal.{Refusal}
use Rattle.registers.specs.declared.register.Register.{Register}
use Rattle.registers.specs.declared.register.Register.TheVariants.{Command1, Command2, Command3, Mode, Port1Control, Mask, InterruptAddress, Buffer, Pins, Timer, Status}
use Rattle.registers.specs.declared.latch.Latched.{Latched}
use Rattle.registers.specs.declared.pins.Pin.{Pin}
use Rattle.registers.specs.declared.pins.Pin.TheVariants.{Port1, Port2, Cts, Extint}
use Rattle.registers.specs.declared.pins.Port.TheVariants.{One, Two}
use Rattle.registers.specs.declared.words.Family.TheVariants.{I8085, I8086}
use Rattle.registers.specs.declared.held.Registers.{Registers}
use Rattle.muart.specs.declared.state.StandIn.{StandIn}
use Rattle.registers.specs.Words.{family_of, bit_of}
use Rattle.registers.specs.Bus.{strobed}
use Rattle.muart.specs.State.{with_serial, with_sensitive, with_steps, with_prescaler, with_remainder, with_receiver, with_pins}
use Rattle.timers.specs.declared.modes.Side.{Side}
use Rattle.timers.specs.declared.modes.Side.TheVariants.{Even, Odd}
use Rattle.timers.specs.Stepping.{stepped, firing, edge_counted, edge_firing}
use Rattle.muart.specs.Firing.{request_if, fired_requests, biti_of, modes_of}
use Rattle.muart.specs.Serial.{reception_kept, serial_tick, txd_level, rate_in, form_in}
use Rattle.muart.specs.Clock.{timers_moved, timer_step, divide_in, timed, rate_modulus, rated, internal_clock, prescale_in, clocked}
use Rattle.timing.specs.Accumulator.{wraps, next}
use Rattle.timing.proofs.Bare.{when_same}
use Rattle.muart.specs.Reading.{ready_level, took, read_leaves, address_byte}
use Rattle.muart.specs.Writing.{no_characters, stored, commanded3, write_answer, clears_nie, resets, no_level}
use Rattle.muart.specs.Pulses.{pulse_level, second_answer}
use Rattle.muart.specs.PinCalls.{counts, rise, fall, pin_set, pin_tested}
use Rattle.registers.specs.Ports.{outside, set_outside}
use Rattle.board.specs.Views.{View, settled, stirred, clock_once}
use Rattle.board.specs.Perform.{Call, read, write, pulse, first_pulse, second_pulse, pin, span, look, snapshot, reset, Answer, byte, done, State, after, start, answered, view_after, strobe_of, read_effect, store_effect, write_effect, pulse_effect, first_effect, second_effect, pin_effect, span_result, spanned, byte_answer, plain_answer, read_result, write_result, ended as call_ended}
use Rattle.board.specs.Histories.{ran, answers}
use Rattle.board.proofs.Choices.{either, length_ended, ran_append}
use Rattle.board.specs.Draining.{end_word, address_read, EndsAt, ReadsAt, address_reads, draining, requesting_in, requests_now, expected, TakenInTime, Drains, RequestsDrain}

-- clearing two places, in either order
clear_both : (s : List Bool) (i j : ℕ) → set (set s i false) j false ≡ set (set s j false) i false
clear_both [] i j = refl
clear_both (x ∷ s) zero zero = refl
clear_both (x ∷ s) zero (suc j) = refl
clear_both (x ∷ s) (suc i) zero = refl
clear_both (x ∷ s) (suc i) (suc j) = ap (λ t. x ∷ t) (clear_both s i j)

-- with no level in service every request is below all in service
below_none : (q : List Bool) (n : ℕ) → length q ≤ n → below q (replicate n false) ≡ q
below_none [] n h = refl
below_none (r ∷ q) zero h = absurd (not-suc-le-zero h)
below_none (r ∷ q) (suc n) h = ap (λ t. r ∷ t) (below_none q n (le_of_suc-le-suc h))

-- a level opened alone and then closed
open_close : (n l : ℕ) → ended (set (replicate n false) l true) ≡ replicate n false
open_close zero l = refl
open_close (suc n) zero = refl
open_close (suc n) (suc l) = ap (λ t. false ∷ t) (open_close n l)

end_none : (n : ℕ) → ended (replicate n false) ≡ replicate n false
end_none zero = refl
end_none (suc n) = ap (λ t. false ∷ t) (end_none n)

end_behind : (n : ℕ) (ss : List Bool) → times n ended (false ∷ ss) ≡ false ∷ times n ended ss
end_behind zero ss = refl
end_behind (suc n) ss = end_behind n (ended ss)

-- as many ENDs as there are levels close all
all_closed : (ss : List Bool) → times (length ss) ended ss ≡ replicate (length ss) false
all_closed [] = refl
all_closed (true ∷ ss) = end_behind (length ss) ss ∙ ap (λ t. false ∷ t) (all_closed ss)
all_closed (false ∷ ss) =
    end_behind (suc (length ss)) ss
    ∙ ap (λ t. false ∷ t) (times_suc (length ss) ended ss ∙ ap ended (all_closed ss) ∙ end_none (length ss))

-- where a level stands among the levels of a set
record Placed (n : ℕ) (ls : List ℕ) : Type 0 where
  k : ℕ
  soon : k ≤ n
  within : k < length ls
  here : get_or ls k 0 ≡ n

-- the same level in the set with one place before it, clear or set
module _ (n : ℕ) (ls : List ℕ) (p : Placed n ls) where
  moved_within : p.k < length (map suc ls)
  moved_within = subst (λ m. p.k < m) (sym (length-map ls suc)) p.within

  moved_here : get_or (map suc ls) p.k 0 ≡ suc n
  moved_here = get_or-map suc ls p.k 0 0 p.within ∙ ap suc p.here

  behind_clear : Placed (suc n) (map suc ls)
  behind_clear = record { k = p.k; soon = omega arith; within = moved_within; here = moved_here }

  behind_set : Placed (suc n) (0 ∷ map suc ls)
  behind_set = record { k = suc p.k; soon = suc-le-suc p.soon; within = suc-le-suc moved_within; here = moved_here }

-- a level of a set stands at a place that is no higher than its number
placed : (q : List Bool) (n : ℕ) → get_or q n false ≡ true → Placed n (levels q)
placed [] n e = absurd (both_ways false refl e)
placed (true ∷ q) zero e = record { k = 0; soon = zero-le; within = suc-le-suc zero-le; here = refl }
placed (false ∷ q) zero e = absurd (both_ways false refl e)
placed (true ∷ q) (suc n) e = behind_set n (levels q) (placed q n e)
placed (false ∷ q) (suc n) e = behind_clear n (levels q) (placed q n e)

-- the answer of each read
read_at : (m : ℕ) (ls : List ℕ) (k : ℕ) → k < m → k < length ls → get_or (expected m ls) (2 * k) done ≡ byte (4 * get_or ls k 0)
read_at zero ls k h w = absurd (not-suc-le-zero h)
read_at (suc m) [] k h w = absurd (not-suc-le-zero w)
read_at (suc m) (l ∷ ls) zero h w = refl
read_at (suc m) (l ∷ ls) (suc k) h w =
    let e : 2 * suc k ≡ suc (suc (2 * k)) = omega arith in
    ap (λ j. get_or (expected (suc m) (l ∷ ls)) j done) e ∙ read_at m ls k (le_of_suc-le-suc h) (le_of_suc-le-suc w)

in_time : (m : ℕ) (q : List Bool) (n : ℕ) → get_or q n false ≡ true → n < m → TakenInTime n (replicate 8 done ++ expected m (levels q))
in_time m q n e h = let p = placed q n e in record {
  k = p.k;
  soon = p.soon;
  answer =
      get_or-append-add (replicate 8 done) (expected m (levels q)) (2 * p.k) done
      ∙ read_at m (levels q) p.k (let s = p.soon in omega arith) p.within ∙ ap (λ l. byte (4 * l)) p.here;
}

-- reads, each with its END, of a set of requests with no level in service
one_a_read : ℕ → List Bool → List Answer
one_a_read zero q = []
one_a_read (suc k) q = byte (address_byte (lowest q)) ∷ done ∷ one_a_read k (ended q)

lowest_first : (k : ℕ) (q : List Bool) → one_a_read k q ≡ expected k (levels q)
unfolding one_a_read
lowest_first zero q = refl
lowest_first (suc k) q = ap (λ t. byte (address_byte (lowest q)) ∷ done ∷ t) (lowest_first k (ended q)) ∙ at (lowest q) (closes q) (clears q)
  where
    at : (o : Option ℕ) → Closed o q (ended q) → Clears o q (ended q) → (byte (address_byte o) ∷ done ∷ expected k (levels (ended q))) ≡ expected (suc k) (levels q)
    at None e c = (λ i. byte 255 ∷ done ∷ expected k (levels (sym c i))) ∙ (λ i. byte 255 ∷ done ∷ expected k (e i)) ∙ ap (expected (suc k)) (sym e)
    at (Some l) e c = ap (expected (suc k)) (sym e)

-- k ENDs leave the levels but the lowest k
levels_left : (k : ℕ) (q : List Bool) → levels (times k ended q) ≡ drop k (levels q)
levels_left zero q = refl
levels_left (suc k) q = levels_left k (ended q) ∙ at (lowest q) (closes q) (clears q)
  where
    at : (o : Option ℕ) → Closed o q (ended q) → Clears o q (ended q) → drop k (levels (ended q)) ≡ drop (suc k) (levels q)
    at None e c = ap (λ t. drop k (levels t)) (sym c) ∙ ap (drop k) e ∙ drop-nil k ∙ ap (drop (suc k)) (sym e)
    at (Some l) e c = ap (drop (suc k)) (sym e)

-- there are eight places for requests and for service
abbrev Eight : StandIn → Type 0
Eight s = (length s.sensitive.levels.requests ≡ 8) × (length s.sensitive.levels.service ≡ 8)

length_asked : (on : Bool) (l : ℕ) (mask q : List Bool) → length (request_if on l mask q) ≡ length q
length_asked false l mask q = refl
length_asked true l mask q = at (get_or mask l false)
  where
    at : (b : Bool) → length (cond b (set q l true) q) ≡ length q
    at true = length-set q l true
    at false = refl

length_fired : (g : Registers) (f : Fired) (mask q : List Bool) → length (fired_requests g f mask q) ≡ length q
length_fired g f mask q =
    length_asked f.five 7 mask _ ∙ length_asked f.four 6 mask _ ∙ length_asked f.three 3 mask _
    ∙ length_asked (f.two && not (biti_of g)) 1 mask _ ∙ length_asked f.one 0 mask q

moved_eight : (t : Timers) (f : Fired) (s : StandIn) → Eight s → Eight (timers_moved t f s)
moved_eight t f s h = (length_fired s.rest.registers f s.rest.mask s.sensitive.levels.requests ∙ h.0, h.1)

step_eight : (s : StandIn) → Eight s → Eight (timer_step s)
unfolding timer_step
step_eight s h = moved_eight (stepped (modes_of s.rest.registers) s.rest.timers) (firing (modes_of s.rest.registers) s.rest.timers) s h

kept_eight : (o : Option Reception) (s : StandIn) → Eight s → Eight (reception_kept o s)
kept_eight None s h = h
kept_eight (Some r) s h = (length_asked true 4 s.rest.mask s.sensitive.levels.requests ∙ h.0, h.1)

tick_eight : (s : StandIn) → Eight s → Eight (serial_tick s)
unfolding serial_tick
tick_eight s h = kept_eight (told s.rest.serial.rxd s.rest.serial.receiver) _ (length_asked _ 5 s.rest.mask s.sensitive.levels.requests ∙ h.0, h.1)

timed_eight : (s : StandIn) → Eight s → Eight (timed s)
timed_eight s h =
    let x = with_steps (next 1 (divide_in s) s.rest.dividers.steps.at) s in
    either Eight (wraps 1 (divide_in s) s.rest.dividers.steps.at) (timer_step x) x (step_eight x h) h

rated_eight : (s : StandIn) → Eight s → Eight (rated s)
rated_eight s h =
    let x = with_remainder (next (rate_in s) rate_modulus s.rest.dividers.remainder.at) s in
    either Eight (wraps (rate_in s) rate_modulus s.rest.dividers.remainder.at) (serial_tick x) x (tick_eight x h) h

internal_eight : (s : StandIn) → Eight s → Eight (internal_clock s)
unfolding internal_clock
internal_eight s h = rated_eight (timed s) (timed_eight s h)

clocked_eight : (s : StandIn) → Eight s → Eight (clocked s)
unfolding clocked
clocked_eight s h =
    let x = with_prescaler (next 1 (prescale_in s) s.rest.dividers.prescaler.at) s in
    either Eight (wraps 1 (prescale_in s) s.rest.dividers.prescaler.at) (internal_clock x) x (internal_eight x h) h

length_paired : (f : Bool → Bool → Bool) (a b : List Bool) → length (paired f a b) ≡ length a
length_paired f [] b = refl
length_paired f (x ∷ a) [] = refl
length_paired f (x ∷ a) (y ∷ b) = ap suc (length_paired f a b)

-- a read, a pulse
took_eight : (o : Option ℕ) (p : Pending) (nesting : Bool) → length p.requests ≡ 8 → length p.service ≡ 8
    → (length (taken o p nesting).requests ≡ 8) × (length (taken o p nesting).service ≡ 8)
took_eight None p nesting r v = (r, v)
took_eight (Some l) p nesting r v =
    (length-set p.requests l false ∙ r, either (λ set. length set ≡ 8) nesting (set p.service l true) p.service (length-set p.service l true ∙ v) v)

read_eight : (g : Register) (s : StandIn) → Eight s → Eight (with_sensitive (read_leaves g s.rest s.sensitive) s)
read_eight Command1 s h = h
read_eight Command2 s h = h
read_eight Command3 s h = h
read_eight Mode s h = h
read_eight Port1Control s h = h
read_eight Mask s h = h
read_eight InterruptAddress s h = took_eight (ready_level s.rest s.sensitive) s.sensitive.levels s.rest.registers.control.nie h.0 h.1
read_eight Buffer s h = h
read_eight (Pins port) s h = h
read_eight (Timer n) s h = h
read_eight Status s h = h

-- a write
commanded_eight : (w : ℕ) (s : StandIn) → Eight s → Eight (commanded3 w s)
commanded_eight w s h =
    either Eight (resets w) _ _ (refl, refl) (
      h.0,
      either (λ set. length set ≡ 8) (clears_nie w) no_level (cond (bit_of 3 w) (ended s.sensitive.levels.service) s.sensitive.levels.service) refl
          (either (λ set. length set ≡ 8) (bit_of 3 w) (ended s.sensitive.levels.service) s.sensitive.levels.service (length_ended s.sensitive.levels.service ∙ h.1) h.1),
    )

stored_eight : (g : Register) (w : ℕ) (s : StandIn) → Eight s → Eight (stored g w s)
stored_eight Command1 w s h = h
stored_eight Command2 w s h = h
stored_eight Command3 w s h = commanded_eight w s h
stored_eight Mode w s h = h
stored_eight Port1Control w s h = h
stored_eight Mask w s h = h
stored_eight InterruptAddress w s h = (length_paired (λ a b. a && not b) s.sensitive.levels.requests (flags w) ∙ h.0, h.1)
stored_eight Buffer w s h = (length_asked _ 5 s.rest.mask s.sensitive.levels.requests ∙ h.0, h.1)
stored_eight (Pins One) w s h = h
stored_eight (Pins Two) w s h = h
stored_eight (Timer n) w s h = h
stored_eight Status w s h = h

-- a pin call
edge_eight : (side : Side) (s : StandIn) → Eight s → Eight (counts side s)
edge_eight side s h =
    moved_eight (edge_counted side (modes_of s.rest.registers) s.rest.timers) (edge_firing side (modes_of s.rest.registers) s.rest.timers) s h

rise_eight : (p : Pin) (s : StandIn) → Eight s → Eight (rise p s)
rise_eight (Port1 n) s h =
    either Eight (eqb n 2) _ _
    (edge_eight Even s h)
    (either Eight (eqb n 3) _ _
    (edge_eight Odd s h)
    (either Eight (eqb n 7) _ _ (length_asked (biti_of s.rest.registers) 1 s.rest.mask s.sensitive.levels.requests ∙ h.0, h.1) h))
rise_eight (Port2 n) s h = h
rise_eight Cts s h = h
rise_eight Extint s h = h

fall_eight : (p : Pin) (s : StandIn) → Eight s → Eight (fall p s)
fall_eight (Port1 n) s h = either Eight (eqb n 5) _ _ h h
fall_eight (Port2 n) s h = h
fall_eight Cts s h = (length_asked _ 5 s.rest.mask s.sensitive.levels.requests ∙ h.0, h.1)
fall_eight Extint s h = h

pin_eight : (p : Pin) (b : Bool) (s : StandIn) → Eight s → Eight (pin_set p b s)
pin_eight p true s h = either Eight (outside s.rest.pins p) s _ h (rise_eight p (with_pins (set_outside p true s.rest.pins) s) h)
pin_eight p false s h = either Eight (outside s.rest.pins p) _ s (fall_eight p (with_pins (set_outside p false s.rest.pins) s) h) h

-- the last steps of a call change the serial side alone
abbrev bared : StandIn → StandIn
bared u = with_serial (no_characters false) u

settled_bared : (txd : Bool) (v : View) → bared (settled txd v).unit ≡ bared v.unit
unfolding settled
settled_bared txd v = when_same _ (λ x. with_receiver (fallen (form_in x) x.rest.serial.receiver) x) bared v.unit refl

settled_eight : (txd : Bool) (v : View) → Eight v.unit → Eight (settled txd v).unit
settled_eight txd v h = subst Eight (sym (settled_bared txd v)) h

once_eight : (v : View) → Eight v.unit → Eight (clock_once v).unit
unfolding clock_once
once_eight v h = settled_eight (txd_level v.unit) (stirred v) (clocked_eight v.unit h)

clocks_eight : (n : ℕ) (v : View) → Eight v.unit → Eight (times n clock_once v).unit
clocks_eight zero v h = h
clocks_eight (suc n) v h = clocks_eight n (clock_once v) (once_eight v h)

-- where an accepted call leaves eight places, so does the call
module _ (v : View) (h : Eight v.unit) where
  abbrev Left : Option View → Type 0
  Left o = Eight (call_ended v o).unit

  left : (w : View) → Eight w.unit → Left (Some w)
  left w k = settled_eight (txd_level v.unit) w k

  read_left : (r : Result Register Refusal) → Left (read_effect r v)
  read_left (Ok g) = left _ (read_eight g v.unit h)
  read_left (Err e) = h

  store_left : (r : Result (List Bool) Refusal) (g : Register) (w : ℕ) → Left (store_effect r g w v)
  store_left (Ok closed) g w = left _ (stored_eight g w v.unit h)
  store_left (Err e) g w = h

  write_left : (r : Result Register Refusal) (w : ℕ) → Left (write_effect r w v)
  write_left (Ok g) w = store_left (write_answer g w v.unit) g w
  write_left (Err e) w = h

  pulsed_eight : Eight (with_sensitive (took v.unit.rest v.unit.sensitive) v.unit)
  pulsed_eight = read_eight InterruptAddress v.unit h

  pulse_left : (r : Result ℕ Refusal) → Left (pulse_effect r v)
  pulse_left (Ok l) = left _ pulsed_eight
  pulse_left (Err e) = h

  first_left : (r : Result ℕ Refusal) → Left (first_effect r v)
  first_left (Ok l) = left _ pulsed_eight
  first_left (Err e) = h

  second_left : (r : Result ℕ Refusal) → Left (second_effect r v)
  second_left (Ok b) = left _ h
  second_left (Err e) = h

  pin_left : (r : Result Pin Refusal) (b : Bool) → Left (pin_effect r b v)
  pin_left (Ok p) b = left _ (pin_eight p b v.unit h)
  pin_left (Err e) b = h

  span_left : (r : Result (Unit {0}) Refusal) (n : ℕ) → Eight (spanned r n v).unit
  span_left (Ok t) n = clocks_eight n v h
  span_left (Err e) n = h

  call_eight : (c : Call) → Eight (view_after c v).unit
  call_eight (read l) = read_left (strobe_of l v)
  call_eight (write l w) = write_left (strobe_of l v) w
  call_eight pulse = pulse_left (pulse_level I8085 v.unit)
  call_eight first_pulse = first_left (pulse_level I8086 v.unit)
  call_eight second_pulse = second_left (second_answer v.unit.rest.begun)
  call_eight (pin code b) = pin_left (pin_tested code v.unit) b
  call_eight (span n) = span_left (span_result n v) n
  call_eight (look ns place) = h
  call_eight snapshot = h
  call_eight reset = left _ (refl, refl)

-- every state that a history reaches has eight places
ran_eight : (h : List Call) (s : State) → Eight s.board.unit → Eight (ran h s).board.unit
ran_eight [] s e = e
ran_eight (c ∷ h) s e = ran_eight h (after c s) (call_eight s.board e c)

-- nesting is on and EXTINT low; command 1 is c, the levels of q request, and those of ss are in service
abbrev Standing : ℕ → List Bool → List Bool → StandIn → Type 0
Standing c q ss u =
    (u.rest.registers.control.nie ≡ true) × (u.rest.pins.extint ≡ false) × (u.rest.registers.command1 ≡ c)
    × (set (u.sensitive.levels.requests) 2 false ≡ q) × (u.sensitive.levels.service ≡ ss)

settled_standing : (c : ℕ) (q ss : List Bool) (txd : Bool) (v : View) → Standing c q ss v.unit → Standing c q ss (settled txd v).unit
settled_standing c q ss txd v h = subst (Standing c q ss) (sym (settled_bared txd v)) h

-- what taking makes of the requests and of the service
abbrev dropped : Option ℕ → List Bool → List Bool
dropped None q = q
dropped (Some l) q = set q l false

abbrev opened : Option ℕ → List Bool → List Bool
opened None ss = ss
opened (Some l) ss = set ss l true

took_requests : (o : Option ℕ) (p : Pending) (q : List Bool) → set (p.requests) 2 false ≡ q → set ((taken o p true).requests) 2 false ≡ dropped o q
took_requests None p q e = e
took_requests (Some l) p q e = clear_both p.requests l 2 ∙ ap (λ t. set t l false) e

took_service : (o : Option ℕ) (p : Pending) (ss : List Bool) → p.service ≡ ss → (taken o p true).service ≡ opened o ss
took_service None p ss e = e
took_service (Some l) p ss e = ap (λ t. set t l true) e

-- the level taken from no service is the lowest
dropped_lowest : (q : List Bool) → dropped (lowest q) q ≡ ended q
dropped_lowest q = at (lowest q) (clears q)
  where
    at : (o : Option ℕ) → Clears o q (ended q) → dropped o q ≡ ended q
    at None e = e
    at (Some l) e = e

open_shut : (o : Option ℕ) → ended (opened o no_level) ≡ no_level
open_shut None = refl
open_shut (Some l) = open_close 8 l

module _ (c : ℕ) (q ss : List Bool) (l : Latched) (v : View) (h : Standing c q ss v.unit) where
  strobe_is : (g : Register) → strobed l (family_of c) ≡ Ok g → strobe_of l v ≡ Ok g
  strobe_is g k = ap (λ x. strobed l (family_of x)) h.2 ∙ k

  end_answers : strobed l (family_of c) ≡ Ok Command3 → answered (end_word l) v ≡ done
  end_answers k = ap (λ r. plain_answer (write_result r 136 v)) (strobe_is Command3 k)

  end_leaves : strobed l (family_of c) ≡ Ok Command3 → Standing c q (ended ss) (view_after (end_word l) v).unit
  end_leaves k =
      subst (λ r. Standing c q (ended ss) (call_ended v (write_effect r 136 v)).unit) (sym (strobe_is Command3 k))
      (settled_standing c q (ended ss) (txd_level v.unit) _ (h.0, h.1, h.2, h.3, ap ended h.4))

  -- the ready level
  ready_is : ready_level v.unit.rest v.unit.sensitive ≡ lowest (below q ss)
  ready_is =
      let p = v.unit.sensitive.levels in let m = v.unit.rest.mask in let x = v.unit.rest.pins.extint in
      ap (λ n. ready (requesting p.requests m x) p.service n) h.0
      ∙ ap (λ e. ready (requesting p.requests m e) p.service true) h.1
      ∙ (λ i. lowest (below (h.3 i) (h.4 i)))

  read_answers : strobed l (family_of c) ≡ Ok InterruptAddress → answered (address_read l) v ≡ byte (address_byte (lowest (below q ss)))
  read_answers k = ap (λ r. byte_answer (read_result r v)) (strobe_is InterruptAddress k) ∙ ap (λ o. byte (address_byte o)) ready_is

  read_leaves_standing : strobed l (family_of c) ≡ Ok InterruptAddress
      → Standing c (dropped (lowest (below q ss)) q) (opened (lowest (below q ss)) ss) (view_after (address_read l) v).unit
  read_leaves_standing k =
      let o = lowest (below q ss) in let p = v.unit.sensitive.levels in
      let t : taken (ready_level v.unit.rest v.unit.sensitive) p v.unit.rest.registers.control.nie ≡ taken o p true = λ i. taken (ready_is i) p (h.0 i) in
      subst (λ r. Standing c (dropped o q) (opened o ss) (call_ended v (read_effect r v)).unit) (sym (strobe_is InterruptAddress k))
      (settled_standing c (dropped o q) (opened o ss) (txd_level v.unit) _
      (h.0, h.1, h.2, ap (λ x. set (x.requests) 2 false) t ∙ took_requests o p q h.3, ap (λ x. x.service) t ∙ took_service o p ss h.4))

module _ (c : ℕ) where
  abbrev Ends : Latched → Type 0
  Ends l = strobed l (family_of c) ≡ Ok Command3

  abbrev Reads : Latched × Latched → Type 0
  Reads p = (strobed p.0 (family_of c) ≡ Ok InterruptAddress) × Ends p.1

  -- END words close one level each, and nothing else changes
  ends_leave : (ends : List Latched) (s : State) (q ss : List Bool) → Standing c q ss s.board.unit → AllByRecursion Ends ends
      → Standing c q (times (length ends) ended ss) (ran (map end_word ends) s).board.unit
  ends_leave [] s q ss h k = h
  ends_leave (l ∷ ends) s q ss h k = ends_leave ends (after (end_word l) s) q (ended ss) (end_leaves c q ss l s.board h k.0) k.1

  ends_answer : (ends : List Latched) (cs : List Call) (s : State) (q ss : List Bool) → Standing c q ss s.board.unit → AllByRecursion Ends ends
      → answers (map end_word ends ++ cs) s ≡ replicate (length ends) done ++ answers cs (ran (map end_word ends) s)
  ends_answer [] cs s q ss h k = refl
  ends_answer (l ∷ ends) cs s q ss h k = λ i.
      end_answers c q ss l s.board h k.0 i
      ∷ ends_answer ends cs (after (end_word l) s) q (ended ss) (end_leaves c q ss l s.board h k.0) k.1 i

  module _ (s : State) (q : List Bool) (h : Standing c q no_level s.board.unit) (eight : length q ≡ 8) (p : Latched × Latched) (k : Reads p) where
    all_below : below q no_level ≡ q
    all_below = below_none q 8 (omega arith)

    -- a read takes the lowest request, or nothing
    taken_one : Standing c (ended q) (opened (lowest q) no_level) (after (address_read p.0) s).board.unit
    taken_one =
        subst (λ t. Standing c t (opened (lowest q) no_level) (after (address_read p.0) s).board.unit) (dropped_lowest q)
        (subst (λ b. Standing c (dropped (lowest b) q) (opened (lowest b) no_level) (after (address_read p.0) s).board.unit) all_below
        (read_leaves_standing c q no_level p.0 s.board h k.0))

    -- and its END word closes it
    closed_one : Standing c (ended q) no_level (after (end_word p.1) (after (address_read p.0) s)).board.unit
    closed_one =
        subst (λ t. Standing c (ended q) t (after (end_word p.1) (after (address_read p.0) s)).board.unit) (open_shut (lowest q))
        (end_leaves c (ended q) (opened (lowest q) no_level) p.1 (after (address_read p.0) s).board taken_one k.1)

    read_one : answered (address_read p.0) s.board ≡ byte (address_byte (lowest q))
    read_one = read_answers c q no_level p.0 s.board h k.0 ∙ ap (λ b. byte (address_byte (lowest b))) all_below

    end_one : answered (end_word p.1) (after (address_read p.0) s).board ≡ done
    end_one = end_answers c (ended q) (opened (lowest q) no_level) p.1 (after (address_read p.0) s).board taken_one k.1

  reads_answer : (pairs : List (Latched × Latched)) (s : State) (q : List Bool) → Standing c q no_level s.board.unit → length q ≡ 8 → AllByRecursion Reads pairs
      → answers (address_reads pairs) s ≡ one_a_read (length pairs) q
  unfolding one_a_read
  reads_answer [] s q h eight k = refl
  reads_answer (p ∷ pairs) s q h eight k = λ i.
      read_one s q h eight p k.0 i ∷ end_one s q h eight p k.0 i
      ∷ reads_answer pairs (after (end_word p.1) (after (address_read p.0) s)) (ended q) (closed_one s q h eight p k.0) (length_ended q ∙ eight) k.1 i

  reads_leave : (pairs : List (Latched × Latched)) (s : State) (q : List Bool) → Standing c q no_level s.board.unit → length q ≡ 8 → AllByRecursion Reads pairs
      → Standing c (times (length pairs) ended q) no_level (ran (address_reads pairs) s).board.unit
  reads_leave [] s q h eight k = h
  reads_leave (p ∷ pairs) s q h eight k =
      reads_leave pairs (after (end_word p.1) (after (address_read p.0) s)) (ended q) (closed_one s q h eight p k.0) (length_ended q ∙ eight) k.1

-- the levels that request
standing_requests : (c : ℕ) (q ss : List Bool) (s : State) → Standing c q ss s.board.unit → requests_now s ≡ levels q
standing_requests c q ss s h =
    ap (λ x. levels (requesting s.board.unit.sensitive.levels.requests s.board.unit.rest.mask x)) h.1 ∙ ap levels h.3

-- from a state with eight places
module _ (s : State) (ends : List Latched) (pairs : List (Latched × Latched)) (eight : Eight s.board.unit)
    (nie : s.board.unit.rest.registers.control.nie ≡ true) (low : s.board.unit.rest.pins.extint ≡ false)
    (many : length ends ≡ 8) (ends_at : AllByRecursion (EndsAt s) ends) (reads_at : AllByRecursion (ReadsAt s) pairs) where
  standing : Standing s.board.unit.rest.registers.command1 (requesting_in s) s.board.unit.sensitive.levels.service s.board.unit
  standing = (nie, low, refl, sym (ap (λ x. requesting s.board.unit.sensitive.levels.requests s.board.unit.rest.mask x) low), refl)

  none_left : times (length ends) ended s.board.unit.sensitive.levels.service ≡ no_level
  none_left =
      ap (λ n. times n ended s.board.unit.sensitive.levels.service) (many ∙ sym eight.1)
      ∙ all_closed s.board.unit.sensitive.levels.service ∙ ap (λ n. replicate n false) eight.1

  cleared : Standing s.board.unit.rest.registers.command1 (requesting_in s) no_level (ran (map end_word ends) s).board.unit
  cleared =
      subst (λ t. Standing s.board.unit.rest.registers.command1 (requesting_in s) t (ran (map end_word ends) s).board.unit) none_left
      (ends_leave s.board.unit.rest.registers.command1 ends s (requesting_in s) _ standing ends_at)

  in_order : answers (draining ends pairs) s ≡ replicate 8 done ++ expected (length pairs) (requests_now s)
  in_order =
      ends_answer s.board.unit.rest.registers.command1 ends (address_reads pairs) s (requesting_in s) _ standing ends_at
      ∙ (λ i. replicate (many i) done ++ reads_answer s.board.unit.rest.registers.command1 pairs (ran (map end_word ends) s) (requesting_in s) cleared (length-set _ 2 _ ∙ eight.0) reads_at i)
      ∙ ap (λ t. replicate 8 done ++ t) (lowest_first (length pairs) (requesting_in s))

  drained : Standing s.board.unit.rest.registers.command1 (times (length pairs) ended (requesting_in s)) no_level (ran (draining ends pairs) s).board.unit
  drained =
      subst (λ t. Standing s.board.unit.rest.registers.command1 (times (length pairs) ended (requesting_in s)) no_level t.board.unit)
      (sym (ran_append (map end_word ends) (address_reads pairs) s))
      (reads_leave s.board.unit.rest.registers.command1 pairs (ran (map end_word ends) s) (requesting_in s) cleared (length-set _ 2 _ ∙ eight.0) reads_at)

  drains : Drains s ends pairs
  drains = record {
    order = in_order;
    in_time = λ n e h. subst (TakenInTime n) (sym in_order) (in_time (length pairs) (requesting_in s) n e h);
    left = standing_requests _ _ _ (ran (draining ends pairs) s) drained ∙ levels_left (length pairs) (requesting_in s);
    closed = ap levels drained.4;
  }

pub requests_drain : RequestsDrain
requests_drain m wires services h ends pairs nie low many ends_at reads_at =
    drains (ran h (start m wires services)) ends pairs (ran_eight h (start m wires services) (refl, refl)) nie low many ends_at reads_at

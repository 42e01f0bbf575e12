-- Service is a stack: every call changes the levels in service as its marks tell.
use Rattle.std.proofs.Common.{◌≡◌, ℕ, zero, suc, ◌≤◌, Bool, true, false, cond, eqb, List, [], ◌∷◌, ◌++◌, map, length, replicate, Some, None, Ok, Err, Option, Result, sym, refl, ap, ◌∙◌, subst, inl, inr, le_of_suc-le-suc, arith, length-set}
use Rattle.std.proofs.lemmas.Bool.{both_ways, eq-eqb}
use Rattle.timing.specs.Run.{times}
use Rattle.timing.specs.Accumulator.{wraps, next}
use Rattle.timing.proofs.Bare.{when_same}
use Rattle.levels.specs.declared.pending.Pending.{Pending}
use Rattle.levels.specs.Sets.{levels, minus, ended as end_lowest}
use Rattle.levels.specs.Levels.{requesting, taken, Opened}
use Rattle.levels.proofs.Stack.{ready_opens}
use Rattle.recorder.specs.Recording.{all_marked}
use Rattle.recorder.proofs.Marks.{all_marked_append, kept_all}
use Rattle.serial.specs.declared.receiver.Reception.{Reception}
use Rattle.serial.specs.Receiving.{told as heard, fallen}
use Rattle.refusals.specs.declared.refusal.Refusal.{Refusal}
use Rattle.registers.specs.declared.register.Register.{Register}
use Rattle.registers.specs.declared.register.Register.TheVariants as register
use Rattle.registers.specs.declared.pins.Port.{Port}
use Rattle.registers.specs.declared.pins.Port.TheVariants as port
use Rattle.registers.specs.declared.pins.Pin.{Pin}
use Rattle.registers.specs.declared.pins.Pin.TheVariants.{Port1, Port2, Cts, Extint}
use Rattle.registers.specs.declared.words.Family.{Family}
use Rattle.registers.specs.declared.words.Family.TheVariants.{I8085, I8086}
use Rattle.muart.specs.declared.state.StandIn.{StandIn}
use Rattle.registers.specs.Words.{family_of, bit_of, same_family}
use Rattle.registers.specs.Ports.{outside, set_outside}
use Rattle.muart.specs.Reading.{ready_level, read_leaves}
use Rattle.muart.specs.Pulses.{free_to_take, pulse_level, second_answer}
use Rattle.muart.specs.Serial.{form_in, rate_in, reception_kept, serial_tick, txd_level}
use Rattle.muart.specs.Clock.{timer_step, divide_in, timed, rate_modulus, rated, internal_clock, prescale_in, clocked}
use Rattle.muart.specs.State.{with_pins, with_receiver, with_steps, with_remainder, with_prescaler, with_service}
use Rattle.muart.specs.PinCalls.{counts_two, counts_three, calls_one, triggers, rise, fall, pin_set, pin_tested}
use Rattle.muart.specs.Writing.{no_level, was_reset, with_control, controlled, left_receiving, left_in_service, clears_nie, resets, lawful, stored, closed_by}
use Rattle.marks.specs.declared.services.ServiceMark.{ServiceMark}
use Rattle.marks.specs.declared.services.ServiceMark.TheVariants.{Taken, Passed, Closed}
use Rattle.marks.specs.Marks.{taken_marks, closed_from, closed_marks}
use Rattle.board.specs.Views.{View, with_unit, settled, stirred, clock_once}
use Rattle.board.specs.Perform.{Call, read, write, pulse, first_pulse, second_pulse, pin, span, look, snapshot, reset, State, strobe_of, read_service, read_effect, write_service, write_result, store_effect, write_effect, pulse_service, pulse_effect, first_effect, second_effect, pin_effect, span_result, spanned, ended, view_after, service_marks, after, start}
use Rattle.board.specs.Histories.{ran, service_made}
use Rattle.board.proofs.Choices.{either, length_ended}
use Rattle.board.specs.ServiceStack.{replay, in_service, Member, Among, Lists, ServiceIsAStack}

-- what goes on after a closed mark goes on if the mark named the latest level
if_closed : (b : Bool) (x y z : Option (List ℕ)) (mid : List ℕ) → (x ≡ Some mid → y ≡ z) → cond b x None ≡ Some mid → cond b y None ≡ z
if_closed true x y z mid h e = h e
if_closed false x y z mid h e = let n : ◌≡◌ {A = ℕ} 0 1 = cc in absurd (omega arith)

-- marks after marks go on from what those left open
replay_append : (ms ns : List ServiceMark) (opened mid : List ℕ) → replay ms opened ≡ Some mid → replay (ms ++ ns) opened ≡ replay ns mid
replay_append [] ns opened mid e = let same : opened ≡ mid = cc in ap (replay ns) same
replay_append (Taken c l ∷ ms) ns opened mid e = replay_append ms ns (l ∷ opened) mid e
replay_append (Passed c l ∷ ms) ns opened mid e = replay_append ms ns opened mid e
replay_append (Closed c l ∷ ms) ns [] mid e = let z : ◌≡◌ {A = ℕ} 0 1 = cc in absurd (omega arith)
replay_append (Closed c l ∷ ms) ns (k ∷ opened) mid e =
    if_closed (eqb l k) (replay ms opened) (replay (ms ++ ns) opened) (replay ns mid) mid (λ f. replay_append ms ns opened mid f) e

-- the marks tell how one set of levels in service became another
abbrev pub Told : List ServiceMark → List Bool → List Bool → Type 0
Told ms a b = (replay ms (levels a) ≡ Some (levels b)) × (length b ≡ length a)

none_told : (a b : List Bool) → b ≡ a → Told [] a b
none_told a b e = (ap (λ x. Some (levels x)) (sym e), ap length e)

-- the set places, lowest first, where the first place is level l
abbrev levels_from : ℕ → List Bool → List ℕ
levels_from l [] = []
levels_from l (true ∷ set) = l ∷ levels_from (suc l) set
levels_from l (false ∷ set) = levels_from (suc l) set

one_on : (l : ℕ) (set : List Bool) → map suc (levels_from l set) ≡ levels_from (suc l) set
one_on l [] = refl
one_on l (true ∷ set) = ap (λ ls. suc l ∷ ls) (one_on (suc l) set)
one_on l (false ∷ set) = one_on (suc l) set

levels_are : (set : List Bool) → levels set ≡ levels_from 0 set
levels_are [] = refl
levels_are (true ∷ set) = ap (λ ls. 0 ∷ map suc ls) (levels_are set) ∙ ap (λ ls. 0 ∷ ls) (one_on 0 set)
levels_are (false ∷ set) = ap (map suc) (levels_are set) ∙ one_on 0 set

-- a set less no level is itself
minus_none : (set : List Bool) (n : ℕ) → length set ≤ n → minus set (replicate n false) ≡ set
minus_none [] n h = refl
minus_none (b ∷ set) zero h = refl
minus_none (true ∷ set) (suc n) h = ap (λ s. true ∷ s) (minus_none set n (le_of_suc-le-suc h))
minus_none (false ∷ set) (suc n) h = ap (λ s. false ∷ s) (minus_none set n (le_of_suc-le-suc h))

module _ (c : ℕ) where
  -- a mark that closes the latest level still open
  closes_latest : (l : ℕ) (ms : List ServiceMark) (opened : List ℕ) → replay (Closed c l ∷ ms) (l ∷ opened) ≡ replay ms opened
  closes_latest l ms opened = ap (λ b. cond b (replay ms opened) None) (eq-eqb l l refl)

  -- closing every level, lowest first, leaves none open
  all_closed : (l : ℕ) (set : List Bool) → replay (closed_from c l set) (levels_from l set) ≡ Some []
  all_closed l [] = refl
  all_closed l (true ∷ set) = closes_latest l (closed_from c (suc l) set) (levels_from (suc l) set) ∙ all_closed (suc l) set
  all_closed l (false ∷ set) = all_closed (suc l) set

  -- closing none makes no mark
  none_closed : (l : ℕ) (set : List Bool) → closed_from c l (minus set set) ≡ []
  none_closed l [] = refl
  none_closed l (true ∷ set) = none_closed (suc l) set
  none_closed l (false ∷ set) = none_closed (suc l) set

  -- closing the lowest level leaves the others open
  lowest_closed : (l : ℕ) (set : List Bool) → replay (closed_from c l (minus set (end_lowest set))) (levels_from l set) ≡ Some (levels_from l (end_lowest set))
  lowest_closed l [] = refl
  lowest_closed l (true ∷ set) =
      closes_latest l (closed_from c (suc l) (minus set set)) (levels_from (suc l) set)
      ∙ ap (λ ms. replay ms (levels_from (suc l) set)) (none_closed (suc l) set)
  lowest_closed l (false ∷ set) = lowest_closed (suc l) set

  -- what a write that leaves some levels in service marks
  abbrev Closes : List Bool → List Bool → Type 0
  Closes a b = Told (closed_marks c (minus a b)) a b

  same_told : (a b : List Bool) → b ≡ a → Closes a b
  same_told a b e = subst (λ x. Closes a x) (sym e) (ap (λ ms. replay ms (levels a)) (none_closed 0 a), refl)

  lowest_told : (a : List Bool) → Closes a (end_lowest a)
  lowest_told a =
      (ap (replay (closed_marks c (minus a (end_lowest a)))) (levels_are a) ∙ lowest_closed 0 a ∙ ap Some (sym (levels_are (end_lowest a))), length_ended a)

  emptied_told : (a : List Bool) → length a ≡ 8 → Told (closed_marks c a) a no_level
  emptied_told a e = (ap (replay (closed_marks c a)) (levels_are a) ∙ all_closed 0 a, sym e)

  all_told : (a : List Bool) → length a ≡ 8 → Closes a no_level
  all_told a e = subst (λ x. Told (closed_marks c x) a no_level) (sym (minus_none a 8 (omega arith))) (emptied_told a e)

  -- command 3: clearing NIE closes all, END the lowest
  left_told : (clears lowest : Bool) (a : List Bool) → length a ≡ 8 → Closes a (cond clears no_level (cond lowest (end_lowest a) a))
  left_told true lowest a e = all_told a e
  left_told false true a e = lowest_told a
  left_told false false a e = same_told a a refl

  -- taking opens its level, with nesting on
  take_told : (o : Option ℕ) (p : Pending) (nesting : Bool) → (nesting ≡ true → Opened o p.service) → Told (taken_marks c nesting o) p.service (taken o p nesting).service
  take_told None p nesting h = none_told p.service p.service refl
  take_told (Some l) p true h = (ap Some (sym (h refl)), length-set p.service l true)
  take_told (Some l) p false h = (refl, refl)

-- the levels in service of a stand-in
abbrev serves : StandIn → List Bool
serves u = u.sensitive.levels.service

-- a clock leaves them alone
kept_same : (o : Option Reception) (u : StandIn) → serves (reception_kept o u) ≡ serves u
kept_same None u = refl
kept_same (Some r) u = refl

tick_same : (u : StandIn) → serves (serial_tick u) ≡ serves u
unfolding serial_tick
tick_same u = kept_same (heard u.rest.serial.rxd u.rest.serial.receiver) _

step_same : (u : StandIn) → serves (timer_step u) ≡ serves u
unfolding timer_step
step_same u = refl

timed_same : (u : StandIn) → serves (timed u) ≡ serves u
timed_same u =
    let x = with_steps (next 1 (divide_in u) u.rest.dividers.steps.at) u in
    when_same (wraps 1 (divide_in u) u.rest.dividers.steps.at) timer_step serves x (step_same x)

rated_same : (u : StandIn) → serves (rated u) ≡ serves u
rated_same u =
    let x = with_remainder (next (rate_in u) rate_modulus u.rest.dividers.remainder.at) u in
    when_same (wraps (rate_in u) rate_modulus u.rest.dividers.remainder.at) serial_tick serves x (tick_same x)

internal_same : (u : StandIn) → serves (internal_clock u) ≡ serves u
unfolding internal_clock
internal_same u = rated_same (timed u) ∙ timed_same u

clocked_same : (u : StandIn) → serves (clocked u) ≡ serves u
unfolding clocked
clocked_same u =
    let x = with_prescaler (next 1 (prescale_in u) u.rest.dividers.prescaler.at) u in
    when_same (wraps 1 (prescale_in u) u.rest.dividers.prescaler.at) internal_clock serves x (internal_same x)

-- and so does an edge of a pin
rise_same : (p : Pin) (u : StandIn) → serves (rise p u) ≡ serves u
rise_same (Port1 n) u =
    either (λ x. serves x ≡ serves u) (eqb n 2) (counts_two u) _ refl
    (either (λ x. serves x ≡ serves u) (eqb n 3) (counts_three u) _ refl (either (λ x. serves x ≡ serves u) (eqb n 7) (calls_one u) u refl refl))
rise_same (Port2 n) u = refl
rise_same Cts u = refl
rise_same Extint u = refl

fall_same : (p : Pin) (u : StandIn) → serves (fall p u) ≡ serves u
fall_same (Port1 n) u = either (λ x. serves x ≡ serves u) (eqb n 5) (triggers u) u refl refl
fall_same (Port2 n) u = refl
fall_same Cts u = refl
fall_same Extint u = refl

pin_same : (p : Pin) (b : Bool) (u : StandIn) → serves (pin_set p b u) ≡ serves u
pin_same p true u =
    let x = with_pins (set_outside p true u.rest.pins) u in
    either (λ x. serves x ≡ serves u) (outside u.rest.pins p) u (rise p x) refl (rise_same p x)
pin_same p false u =
    let x = with_pins (set_outside p false u.rest.pins) u in
    either (λ x. serves x ≡ serves u) (outside u.rest.pins p) (fall p x) u (fall_same p x) refl

-- the levels in service of a board
abbrev serving : View → List Bool
serving v = serves v.unit

settled_same : (txd : Bool) (v : View) → serving (settled txd v) ≡ serving v
unfolding settled
settled_same txd v = when_same _ (λ x. with_receiver (fallen (form_in x) x.rest.serial.receiver) x) serves v.unit refl

once_same : (v : View) → serving (clock_once v) ≡ serving v
unfolding clock_once
once_same v = settled_same (txd_level v.unit) (stirred v) ∙ clocked_same v.unit

clocks_same : (n : ℕ) (v : View) → serving (times n clock_once v) ≡ serving v
clocks_same zero v = refl
clocks_same (suc n) v = clocks_same n (clock_once v) ∙ once_same v

-- the last steps of an accepted call leave them alone
ended_told : (ms : List ServiceMark) (v w : View) → Told ms (serving v) (serving w) → Told ms (serving v) (serving (ended v (Some w)))
ended_told ms v w t = subst (Told ms (serving v)) (sym (settled_same (txd_level v.unit) w)) t

-- a read or a pulse that takes
took_told : (v : View) → Told (taken_marks v.clock v.unit.rest.registers.control.nie (ready_level v.unit.rest v.unit.sensitive)) (serving v) (taken (ready_level v.unit.rest v.unit.sensitive) v.unit.sensitive.levels v.unit.rest.registers.control.nie).service
took_told v =
    let r = v.unit.rest in
    let p = v.unit.sensitive.levels in
    take_told v.clock (ready_level r v.unit.sensitive) p r.registers.control.nie
    (ready_opens (ready_level r v.unit.sensitive) (requesting p.requests r.mask r.pins.extint) p.service r.registers.control.nie refl)

register_told : (g : Register) (v : View) → Told (read_service (Ok g) v) (serving v) (read_leaves g v.unit.rest v.unit.sensitive).levels.service
register_told register.Command1 v = (refl, refl)
register_told register.Command2 v = (refl, refl)
register_told register.Command3 v = (refl, refl)
register_told register.Mode v = (refl, refl)
register_told register.Port1Control v = (refl, refl)
register_told register.Mask v = (refl, refl)
register_told register.InterruptAddress v = took_told v
register_told register.Buffer v = (refl, refl)
register_told (register.Pins p) v = (refl, refl)
register_told (register.Timer n) v = (refl, refl)
register_told register.Status v = (refl, refl)

read_told : (r : Result Register Refusal) (v : View) → Told (read_service r v) (serving v) (serving (ended v (read_effect r v)))
read_told (Ok g) v = ended_told (read_service (Ok g) v) v _ (register_told g v)
read_told (Err e) v = (refl, refl)

-- a pulse is refused, or takes the ready level
free_taken : (P : Result ℕ Refusal → Type 0) (o begun : Option ℕ) → ((e : Refusal) → P (Err e)) → ((l : ℕ) → o ≡ Some l → P (Ok l)) → P (free_to_take o begun)
free_taken P None begun refused takes = refused _
free_taken P (Some l) None refused takes = takes l refl
free_taken P (Some l) (Some k) refused takes = refused _

pulse_taken : (P : Result ℕ Refusal → Type 0) (f : Family) (u : StandIn) → ((e : Refusal) → P (Err e)) → ((l : ℕ) → ready_level u.rest u.sensitive ≡ Some l → P (Ok l)) → P (pulse_level f u)
pulse_taken P f u refused takes =
    either P u.rest.registers.control.iae _ _
    (either P (same_family f (family_of u.rest.registers.command1)) _ _ (free_taken P (ready_level u.rest u.sensitive) u.rest.begun refused takes) (refused _))
    (refused _)

level_told : (v : View) (l : ℕ) → ready_level v.unit.rest v.unit.sensitive ≡ Some l → Told (pulse_service (Ok l) v) (serving v) (taken (ready_level v.unit.rest v.unit.sensitive) v.unit.sensitive.levels v.unit.rest.registers.control.nie).service
level_told v l e =
    let o = ready_level v.unit.rest v.unit.sensitive in
    let n = v.unit.rest.registers.control.nie in
    subst (λ x. Told (taken_marks v.clock n x) (serving v) (taken o v.unit.sensitive.levels n).service) e (took_told v)

pulse_told : (v : View) → Told (service_marks pulse v) (serving v) (serving (view_after pulse v))
pulse_told v =
    pulse_taken (λ r. Told (pulse_service r v) (serving v) (serving (ended v (pulse_effect r v)))) I8085 v.unit
    (λ e. (refl, refl)) (λ l e. ended_told (pulse_service (Ok l) v) v _ (level_told v l e))

first_told : (v : View) → Told (service_marks first_pulse v) (serving v) (serving (view_after first_pulse v))
first_told v =
    pulse_taken (λ r. Told (pulse_service r v) (serving v) (serving (ended v (first_effect r v)))) I8086 v.unit
    (λ e. (refl, refl)) (λ l e. ended_told (pulse_service (Ok l) v) v _ (level_told v l e))

second_told : (r : Result ℕ Refusal) (v : View) → Told [] (serving v) (serving (ended v (second_effect r v)))
second_told (Ok b) v = ended_told [] v _ (refl, refl)
second_told (Err e) v = (refl, refl)

pin_told : (r : Result Pin Refusal) (b : Bool) (v : View) → Told [] (serving v) (serving (ended v (pin_effect r b v)))
pin_told (Ok p) b v = ended_told [] v (with_unit (pin_set p b v.unit) v) (none_told (serving v) _ (pin_same p b v.unit))
pin_told (Err e) b v = (refl, refl)

span_told : (r : Result (Unit {0}) Refusal) (n : ℕ) (v : View) → Told [] (serving v) (serving (spanned r n v))
span_told (Ok t) n v = none_told (serving v) _ (clocks_same n v)
span_told (Err e) n v = (refl, refl)

-- a write marks what it closes
latch_same : (p : Port) (w : ℕ) (u : StandIn) → serves (stored (register.Pins p) w u) ≡ serves u
latch_same port.One w u = refl
latch_same port.Two w u = refl

command_told : (c : ℕ) (b : Bool) (w : ℕ) (u : StandIn) → length (serves u) ≡ 8 → Closes c (serves u) (serves (cond b (was_reset u) (with_control (controlled w u.rest.registers.control) (with_service (left_in_service w (serves u)) (with_receiver (left_receiving w u.rest.serial.receiver) u)))))
command_told c true w u e = all_told c (serves u) e
command_told c false w u e = left_told c (clears_nie w) (bit_of 3 w) (serves u) e

stored_told : (c : ℕ) (g : Register) (w : ℕ) (u : StandIn) → length (serves u) ≡ 8 → Closes c (serves u) (serves (stored g w u))
stored_told c register.Command1 w u e = same_told c (serves u) _ refl
stored_told c register.Command2 w u e = same_told c (serves u) _ refl
stored_told c register.Command3 w u e = command_told c (resets w) w u e
stored_told c register.Mode w u e = same_told c (serves u) _ refl
stored_told c register.Port1Control w u e = same_told c (serves u) _ refl
stored_told c register.Mask w u e = same_told c (serves u) _ refl
stored_told c register.InterruptAddress w u e = same_told c (serves u) _ refl
stored_told c register.Buffer w u e = same_told c (serves u) _ refl
stored_told c (register.Pins p) w u e = same_told c (serves u) _ (latch_same p w u)
stored_told c (register.Timer n) w u e = same_told c (serves u) _ refl
stored_told c register.Status w u e = same_told c (serves u) _ refl

store_told : (b : Bool) (r : Refusal) (g : Register) (w : ℕ) (v : View) → length (serving v) ≡ 8
    → Told (write_service (cond b (Ok (closed_by v.unit (stored g w v.unit))) (Err r)) v) (serving v) (serving (ended v (store_effect (cond b (Ok (closed_by v.unit (stored g w v.unit))) (Err r)) g w v)))
store_told true r g w v e = ended_told (closed_marks v.clock (closed_by v.unit (stored g w v.unit))) v (with_unit (stored g w v.unit) v) (stored_told v.clock g w v.unit e)
store_told false r g w v e = (refl, refl)

write_told : (r : Result Register Refusal) (w : ℕ) (v : View) → length (serving v) ≡ 8 → Told (write_service (write_result r w v) v) (serving v) (serving (ended v (write_effect r w v)))
write_told (Ok g) w v e = store_told (lawful g w) _ g w v e
write_told (Err r) w v e = (refl, refl)

-- every call changes the levels in service as its marks tell
pub call_told : (c : Call) (v : View) → length (serving v) ≡ 8 → Told (service_marks c v) (serving v) (serving (view_after c v))
call_told (read l) v e = read_told (strobe_of l v) v
call_told (write l w) v e = write_told (strobe_of l v) w v e
call_told pulse v e = pulse_told v
call_told first_pulse v e = first_told v
call_told second_pulse v e = second_told (second_answer v.unit.rest.begun) v
call_told (pin code b) v e = pin_told (pin_tested code v.unit) b v
call_told (span n) v e = span_told (span_result n v) n v
call_told (look ns place) v e = (refl, refl)
call_told snapshot v e = (refl, refl)
call_told reset v e = ended_told (service_marks reset v) v (with_unit (was_reset v.unit) v) (emptied_told v.clock (serving v) e)

-- and so does every history
pub history_told : (h : List Call) (s : State) → length (in_service s) ≡ 8 → replay (service_made h s) (levels (in_service s)) ≡ Some (levels (in_service (ran h s)))
history_told [] s e = refl
history_told (c ∷ h) s e =
    let t = call_told c s.board e in
    replay_append (service_marks c s.board) (service_made h (after c s)) (levels (in_service s)) (levels (in_service (after c s))) t.0
    ∙ history_told h (after c s) (t.1 ∙ e)

-- the service recorder was given the marks made
pub services_marked : (h : List Call) (s : State) → (ran h s).services ≡ all_marked (service_made h s) s.services
services_marked [] s = refl
services_marked (c ∷ h) s = services_marked h (after c s) ∙ sym (all_marked_append (service_marks c s.board) (service_made h (after c s)) s.services)

-- the levels listed one place on
among_suc : (l : ℕ) (ls : List ℕ) → Among l ls → Among (suc l) (map suc ls)
among_suc l [] a = absurd a
among_suc l (k ∷ ls) (inl e) = inl (ap suc e)
among_suc l (k ∷ ls) (inr a) = inr (among_suc l ls a)

among_pred : (l : ℕ) (ls : List ℕ) → Among (suc l) (map suc ls) → Among l ls
among_pred l [] a = absurd a
among_pred l (k ∷ ls) (inl e) = inl (omega arith)
among_pred l (k ∷ ls) (inr a) = inr (among_pred l ls a)

not_zero : (ls : List ℕ) → Among 0 (map suc ls) → ⊥
not_zero [] a = a
not_zero (k ∷ ls) (inl e) = omega arith
not_zero (k ∷ ls) (inr a) = not_zero ls a

levels_member : (l : ℕ) (set : List Bool) → Among l (levels set) → Member l set
levels_member l [] a = absurd a
levels_member zero (true ∷ set) a = refl
levels_member zero (false ∷ set) a = absurd (not_zero (levels set) a)
levels_member (suc l) (true ∷ set) (inl e) = absurd (omega arith)
levels_member (suc l) (true ∷ set) (inr a) = levels_member l set (among_pred l (levels set) a)
levels_member (suc l) (false ∷ set) a = levels_member l set (among_pred l (levels set) a)

member_levels : (l : ℕ) (set : List Bool) → Member l set → Among l (levels set)
member_levels l [] e = absurd (both_ways false refl e)
member_levels zero (true ∷ set) e = inl refl
member_levels zero (false ∷ set) e = absurd (both_ways false refl e)
member_levels (suc l) (true ∷ set) e = inr (among_suc l (levels set) (member_levels l set e))
member_levels (suc l) (false ∷ set) e = among_suc l (levels set) (member_levels l set e)

-- the levels of a set are its members
pub levels_listed : (set : List Bool) → Lists (levels set) set
levels_listed set l = (levels_member l set, member_levels l set)

pub service_is_a_stack : ServiceIsAStack
service_is_a_stack m wires services h none =
    let s = start m wires services in
    (ap (λ ms. replay ms []) (ap (λ r. r.kept) (services_marked h s) ∙ kept_all (service_made h s) services none) ∙ history_told h s refl, levels_listed (in_service (ran h s)))

-- Every step of the transmitter keeps it sound: for callers that reason over the rules alone.
use Rattle.std.proofs.Common.{◌≡◌, ℕ, ◌+◌, ◌-◌, ◌*◌, ◌≤◌, Bool, true, false, ltb, Some, None, Option, arith}
use Rattle.std.proofs.lemmas.Bool.{cond_both, ltb-true}
use Rattle.serial.specs.Forms.{SoundForm, has_parity, stops_ticks}
use Rattle.serial.specs.Sending.{Phase, SoundPhase, SoundSending, SoundTransmitter, bit_long, ending, idle, lasting, offered, passed, past_bit, past_data, released, stopping, ticked, written}
use Rattle.serial.specs.declared.form.Form.{Form}
use Rattle.serial.specs.declared.form.Stops.{Stops}
use Rattle.serial.specs.declared.form.Stops.TheVariants.{One, OneAndHalf, Two}
use Rattle.serial.specs.declared.transmitter.Sending.{Sending}
use Rattle.serial.specs.declared.stage.Stage.TheVariants.{Idle, Start, Data, Parity, Stop}
use Rattle.serial.specs.declared.transmitter.Transmitter.{Transmitter}
use Rattle.serial.proofs.Sent.{long_stops}

short_stops : (stops : Stops) (s : ℕ) → stops_ticks stops s ≤ 2 * s
short_stops One s = omega arith
short_stops OneAndHalf s = omega arith
short_stops Two s = omega arith

pub idle_sound : SoundPhase Idle
idle_sound = tt

pub offered_sound : (form : Form) (cts : Bool) (b : Option ℕ) → SoundForm form → SoundTransmitter (offered form cts b)
offered_sound form cts None sound = idle_sound
offered_sound form true (Some c) sound = idle_sound
offered_sound form false (Some c) sound = (sound, omega arith, omega arith)

pub stopping_sound : (s : Sending) → SoundSending s → SoundPhase (stopping s)
stopping_sound s sound =
    (sound.0, omega (arith, long_stops s.form.stops s.form.ticks), omega (arith, short_stops s.form.stops s.form.ticks))

pub past_bit_sound : (s : Sending) (place : ℕ) → SoundSending s → SoundPhase (past_bit s place)
past_bit_sound s place sound =
    cond_both (ltb (place + 1) s.form.length) (Data (bit_long s) (place + 1)) (past_data s) SoundPhase
    (λ e. ((sound.0, omega arith, omega arith), ltb-true (place + 1) s.form.length e))
    (λ e. cond_both (has_parity s.form.parity) (Parity (bit_long s)) (stopping s) SoundPhase (λ _. (sound.0, omega arith, omega arith)) (λ _. stopping_sound s sound))

module _ (s : Sending) (sound : SoundSending s) where
  -- one tick fewer is left, where it is not the last
  fewer : ltb 1 s.left ≡ true → SoundSending (lasting (s.left - 1) s)
  fewer e = (sound.0, omega (arith, ltb-true 1 s.left e), omega arith)

pub passed_sound : (p : Phase) → SoundPhase p → SoundPhase (passed p)
passed_sound Idle sound = sound
passed_sound (Start s) sound =
    cond_both (ltb 1 s.left) (Start (lasting (s.left - 1) s)) (Data (bit_long s) 0) SoundPhase (λ e. fewer s sound e) (λ e. ((sound.0, omega arith, omega arith), omega arith))
passed_sound (Data s place) sound =
    cond_both (ltb 1 s.left) (Data (lasting (s.left - 1) s) place) (past_bit s place) SoundPhase (λ e. (fewer s sound.0 e, sound.1)) (λ e. past_bit_sound s place sound.0)
passed_sound (Parity s) sound =
    cond_both (ltb 1 s.left) (Parity (lasting (s.left - 1) s)) (stopping s) SoundPhase (λ e. fewer s sound e) (λ e. stopping_sound s sound)
passed_sound (Stop s) sound = cond_both (ltb 1 s.left) (Stop (lasting (s.left - 1) s)) Idle SoundPhase (λ e. fewer s sound e) (λ e. idle_sound)

pub ticked_sound : (form : Form) (cts : Bool) (t : Transmitter) → SoundForm form → SoundTransmitter t → SoundTransmitter (ticked form cts t)
ticked_sound form cts t good sound =
    cond_both (ending t.phase) (offered form cts t.buffer) (record { buffer = t.buffer; phase = passed t.phase }) SoundTransmitter
    (λ e. offered_sound form cts t.buffer good) (λ e. passed_sound t.phase sound)

pub written_sound : (c : ℕ) (form : Form) (cts : Bool) (t : Transmitter) → SoundForm form → SoundTransmitter t → SoundTransmitter (written c form cts t)
written_sound c form cts t good sound =
    cond_both (idle t.phase) (offered form cts (Some c)) (record { buffer = Some c; phase = t.phase }) SoundTransmitter
    (λ e. offered_sound form cts (Some c) good) (λ e. sound)

pub released_sound : (form : Form) (t : Transmitter) → SoundForm form → SoundTransmitter t → SoundTransmitter (released form t)
released_sound form t good sound =
    cond_both (idle t.phase) (offered form false t.buffer) t SoundTransmitter (λ e. offered_sound form false t.buffer good) (λ e. sound)

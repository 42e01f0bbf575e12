-- Every step of the receiver keeps it sound: for callers that reason over the rules alone.
use Rattle.std.proofs.Common.{◌≡◌, ℕ, ◌+◌, ◌-◌, ◌<◌, Bool, true, ltb, arith}
use Rattle.std.proofs.lemmas.Bool.{cond_both, ltb-true, ltb-false}
use Rattle.serial.specs.Forms.{SoundForm, has_parity}
use Rattle.serial.specs.Receiving.{SoundReceiver, SoundReceiving, bit_long, heard, lasting, passed, past_bit, past_data, with_bit, with_parity}
use Rattle.serial.specs.declared.receiver.Event.{Event}
use Rattle.serial.specs.declared.receiver.Event.TheVariants.{Fall, Tick}
use Rattle.serial.specs.declared.receiver.Receiving.{Receiving}
use Rattle.serial.specs.declared.receiver.Receiver.{Receiver}
use Rattle.serial.specs.declared.stage.Stage.TheVariants.{Idle, Start, Data, Parity, Stop}
use Rattle.serial.proofs.Gathered.{one_more}

-- A fall gives a sound form.
abbrev pub SoundEvent : Event → Type 0
SoundEvent (Fall form) = SoundForm form
SoundEvent (Tick rxd) = Unit {0}

pub idle_sound : SoundReceiver Idle
idle_sound = tt

-- one tick fewer is left, where it is not the last
fewer : (x : Receiving) (n : ℕ) → SoundReceiving x n → ltb 1 x.left ≡ true → SoundReceiving (lasting (x.left - 1) x) n
fewer x n sound e = (sound.0, omega (arith, ltb-true 1 x.left e), omega arith, sound.3)

pub past_bit_sound : (x : Receiving) (place : ℕ) → SoundReceiving x (place + 1) → place < x.form.length → SoundReceiver (past_bit x place)
past_bit_sound x place sound h =
    cond_both (ltb (place + 1) x.form.length) (Data x (place + 1)) (past_data x) SoundReceiver (λ e. (sound, ltb-true (place + 1) x.form.length e))
    (λ e.
    let last : place + 1 ≡ x.form.length = omega (arith, ltb-false (place + 1) x.form.length e) in
    let whole : SoundReceiving x x.form.length = (sound.0, sound.1, sound.2, rw last at sound.3) in
    cond_both (has_parity x.form.parity) (Parity x) (Stop x) SoundReceiver (λ _. whole) (λ _. whole))

pub passed_sound : (rxd : Bool) (r : Receiver) → SoundReceiver r → SoundReceiver (passed rxd r)
passed_sound rxd Idle sound = sound
passed_sound rxd (Start x) sound =
    cond_both (ltb 1 x.left) (Start (lasting (x.left - 1) x)) _ SoundReceiver (λ e. fewer x 0 sound e)
    (λ e. cond_both rxd Idle (Data (bit_long x) 0) SoundReceiver (λ _. idle_sound) (λ _. ((sound.0, omega arith, omega arith, sound.3), omega arith)))
passed_sound rxd (Data x place) sound =
    cond_both (ltb 1 x.left) (Data (lasting (x.left - 1) x) place) (past_bit (with_bit place rxd x) place) SoundReceiver
    (λ e. (fewer x place sound.0 e, sound.1))
    (λ e. past_bit_sound (with_bit place rxd x) place (sound.0.0, omega arith, omega arith, one_more x.character place rxd sound.0.3) sound.1)
passed_sound rxd (Parity x) sound =
    cond_both (ltb 1 x.left) (Parity (lasting (x.left - 1) x)) (Stop (with_parity rxd x)) SoundReceiver (λ e. fewer x x.form.length sound e)
    (λ e. (sound.0, omega arith, omega arith, sound.3))
passed_sound rxd (Stop x) sound =
    cond_both (ltb 1 x.left) (Stop (lasting (x.left - 1) x)) Idle SoundReceiver (λ e. fewer x x.form.length sound e) (λ e. idle_sound)

pub heard_sound : (event : Event) (r : Receiver) → SoundEvent event → SoundReceiver r → SoundReceiver (heard event r)
heard_sound (Tick rxd) r good sound = passed_sound rxd r sound
heard_sound (Fall form) Idle good sound = (good, omega arith, omega arith, omega arith)
heard_sound (Fall form) (Start x) good sound = sound
heard_sound (Fall form) (Data x place) good sound = sound
heard_sound (Fall form) (Parity x) good sound = sound
heard_sound (Fall form) (Stop x) good sound = sound

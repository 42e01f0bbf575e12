-- Before the horizon's end no tick ends a frame, and none tells anything: for proofs of callers that jump over many ticks.
use Rattle.std.proofs.Common.{◌≡◌, ℕ, zero, suc, ◌<◌, ◌≤◌, Bool, false, None, sym, refl, ap, ◌∙◌, arith}
use Rattle.std.proofs.lemmas.Bool.{lt-ltb}
use Rattle.timing.specs.Run.{times}
use Rattle.timing.proofs.Repeats.{times_suc}
use Rattle.serial.specs.Lines.{after}
use Rattle.serial.specs.Receiving.{passed as hears, quiet_ticks as quiet_hearing, told}
use Rattle.serial.specs.Sending.{ending, level, passed as sends, quiet_ticks as quiet_sending, ticked}
use Rattle.serial.specs.declared.form.Form.{Form}
use Rattle.serial.specs.declared.receiver.Receiver.{Receiver}
use Rattle.serial.specs.declared.stage.Stage.TheVariants as stage
use Rattle.serial.specs.Sending.{Phase}
use Rattle.serial.specs.declared.transmitter.Transmitter.{Transmitter}
use Rattle.serial.proofs.Heard.{quiet_told}
use Rattle.serial.proofs.Quiet.{holding, quiet_ending}

-- ---- the transmitter

-- a quiet tick takes at most one off the horizon
still_sending : (p : Phase) (k : ℕ) → suc k ≤ quiet_sending p → k ≤ quiet_sending (sends p)
still_sending stage.Idle k h = omega arith
still_sending (stage.Start s) k h = rw (lt-ltb 1 s.left (omega arith)) (omega arith)
still_sending (stage.Data s place) k h = rw (lt-ltb 1 s.left (omega arith)) (omega arith)
still_sending (stage.Parity s) k h = rw (lt-ltb 1 s.left (omega arith)) (omega arith)
still_sending (stage.Stop s) k h = rw (lt-ltb 1 s.left (omega arith)) (omega arith)

-- no tick within the horizon is a frame's last
pub silent_ending : (k : ℕ) (p : Phase) → k < quiet_sending p → ending (times k sends p) ≡ false
silent_ending zero p h = quiet_ending p (omega arith)
silent_ending (suc k) p h = silent_ending k (sends p) (still_sending p (suc k) (omega arith))

-- a quiet tick leaves TxD as it is
same_level : (p : Phase) → 1 ≤ quiet_sending p → level (sends p) ≡ level p
same_level stage.Idle h = refl
same_level (stage.Start s) h = rw (lt-ltb 1 s.left (omega arith))
same_level (stage.Data s place) h = rw (lt-ltb 1 s.left (omega arith))
same_level (stage.Parity s) h = rw (lt-ltb 1 s.left (omega arith))
same_level (stage.Stop s) h = rw (lt-ltb 1 s.left (omega arith))

pub silent_level : (k : ℕ) (p : Phase) → k ≤ quiet_sending p → level (times k sends p) ≡ level p
silent_level zero p h = refl
silent_level (suc k) p h = silent_level k (sends p) (still_sending p k h) ∙ same_level p (omega arith)

-- ticks within the horizon leave the buffer alone
pub silent_ticked : (form : Form) (cts : Bool) (k : ℕ) (t : Transmitter) → k ≤ quiet_sending t.phase
    → times k (ticked form cts) t ≡ record { buffer = t.buffer; phase = times k sends t.phase }
silent_ticked form cts zero t h = refl
silent_ticked form cts (suc k) t h =
    let one : ticked form cts t ≡ holding t.buffer (sends t.phase) = rw (quiet_ending t.phase (omega arith)) in
    ap (times k (ticked form cts)) one ∙ silent_ticked form cts k (holding t.buffer (sends t.phase)) (still_sending t.phase k h)

-- ---- the receiver

-- a quiet tick takes at most one off the horizon
still_hearing : (rxd : Bool) (r : Receiver) (k : ℕ) → suc k ≤ quiet_hearing r → k ≤ quiet_hearing (hears rxd r)
still_hearing rxd stage.Idle k h = omega arith
still_hearing rxd (stage.Start x) k h = rw (lt-ltb 1 x.left (omega arith)) (omega arith)
still_hearing rxd (stage.Data x place) k h = rw (lt-ltb 1 x.left (omega arith)) (omega arith)
still_hearing rxd (stage.Parity x) k h = rw (lt-ltb 1 x.left (omega arith)) (omega arith)
still_hearing rxd (stage.Stop x) k h = rw (lt-ltb 1 x.left (omega arith)) (omega arith)

-- no tick within the horizon tells anything
pub silent_told : (rxd : Bool) (k : ℕ) (r : Receiver) → k < quiet_hearing r → told rxd (times k (hears rxd) r) ≡ None
silent_told rxd zero r h = quiet_told rxd r (omega arith)
silent_told rxd (suc k) r h = silent_told rxd k (hears rxd r) (still_hearing rxd r (suc k) (omega arith))

-- a steady line: the ticks are one step many times
pub steady : (rxd : Bool) (k : ℕ) (r : Receiver) → after (λ _. rxd) k r ≡ times k (hears rxd) r
steady rxd zero r = refl
steady rxd (suc k) r = ap (hears rxd) (steady rxd k r) ∙ sym (times_suc k (hears rxd) r)

-- The transmitter's ticks that only count.
use Rattle.std.proofs.Common.{◌≡◌, ℕ, ◌+◌, ◌-◌, ◌<◌, ◌≤◌, Bool, false, not, Option, sym, refl, ap, arith}
use Rattle.std.proofs.lemmas.Bool.{lt-ltb}
use Rattle.timing.specs.Run.{times}
use Rattle.serial.specs.Sending.{SoundPhase, ending, idle, lasting, lessened, level, quiet_ticks, ticked}
use Rattle.serial.specs.declared.form.Form.{Form}
use Rattle.serial.specs.declared.transmitter.Sending.{Sending}
use Rattle.serial.specs.Sending.{Phase}
use Rattle.serial.specs.declared.stage.Stage.TheVariants.{Idle, Start, Data, Parity, Stop}
use Rattle.serial.specs.declared.transmitter.Transmitter.{Transmitter}
use Rattle.serial.proofs.Counting.{times_still, times_count}

-- a transmitter in this phase
abbrev pub holding : Option ℕ → Phase → Transmitter
holding b p = record { buffer = b; phase = p }

module _ (form : Form) (cts : Bool) (b : Option ℕ) where
  pub counts_start : (s : Sending) (l : ℕ) → 1 < l → ticked form cts (holding b (Start (lasting l s))) ≡ holding b (Start (lasting (l - 1) s))
  counts_start s l h = rw (lt-ltb 1 l h)

  pub counts_data : (s : Sending) (place : ℕ) (l : ℕ) → 1 < l → ticked form cts (holding b (Data (lasting l s) place)) ≡ holding b (Data (lasting (l - 1) s) place)
  counts_data s place l h = rw (lt-ltb 1 l h)

  pub counts_parity : (s : Sending) (l : ℕ) → 1 < l → ticked form cts (holding b (Parity (lasting l s))) ≡ holding b (Parity (lasting (l - 1) s))
  counts_parity s l h = rw (lt-ltb 1 l h)

  pub counts_stop : (s : Sending) (l : ℕ) → 1 < l → ticked form cts (holding b (Stop (lasting l s))) ≡ holding b (Stop (lasting (l - 1) s))
  counts_stop s l h = rw (lt-ltb 1 l h)

  -- ticks within the horizon take off as many
  pub lessens : (p : Phase) (n : ℕ) → SoundPhase p → n ≤ quiet_ticks p → holding b (lessened n p) ≡ times n (ticked form cts) (holding b p)
  lessens Idle n sound h = sym (times_still (ticked form cts) (holding b Idle) refl n)
  lessens (Start s) n sound h = sym (times_count (ticked form cts) (λ l. holding b (Start (lasting l s))) (counts_start s) n s.left (omega arith))
  lessens (Data s place) n sound h = sym (times_count (ticked form cts) (λ l. holding b (Data (lasting l s) place)) (counts_data s place) n s.left (omega arith))
  lessens (Parity s) n sound h = sym (times_count (ticked form cts) (λ l. holding b (Parity (lasting l s))) (counts_parity s) n s.left (omega arith))
  lessens (Stop s) n sound h = sym (times_count (ticked form cts) (λ l. holding b (Stop (lasting l s))) (counts_stop s) n s.left (omega arith))

-- ---- for callers that reason over many ticks

-- a quiet tick takes one off
pub quiet_tick : (form : Form) (cts : Bool) (b : Option ℕ) (p : Phase) → SoundPhase p → 1 ≤ quiet_ticks p → ticked form cts (holding b p) ≡ holding b (lessened 1 p)
quiet_tick form cts b p sound h = sym (lessens form cts b p 1 sound h)

-- no quiet tick is a frame's last
pub quiet_ending : (p : Phase) → 1 ≤ quiet_ticks p → ending p ≡ false
quiet_ending Idle h = refl
quiet_ending (Start s) h = refl
quiet_ending (Data s place) h = refl
quiet_ending (Parity s) h = refl
quiet_ending (Stop s) h = ap not (lt-ltb 1 s.left (omega arith))

-- what is left stays quiet
pub quiet_rest : (p : Phase) (n m : ℕ) → n + m ≤ quiet_ticks p → m ≤ quiet_ticks (lessened n p)
quiet_rest Idle n m h = omega arith
quiet_rest (Start s) n m h = omega arith
quiet_rest (Data s place) n m h = omega arith
quiet_rest (Parity s) n m h = omega arith
quiet_rest (Stop s) n m h = omega arith

-- TxD stays as it is
pub quiet_level : (p : Phase) (n : ℕ) → level (lessened n p) ≡ level p
quiet_level Idle n = refl
quiet_level (Start s) n = refl
quiet_level (Data s place) n = refl
quiet_level (Parity s) n = refl
quiet_level (Stop s) n = refl

-- and so does TRE
pub quiet_idle : (p : Phase) (n : ℕ) → idle (lessened n p) ≡ idle p
quiet_idle Idle n = refl
quiet_idle (Start s) n = refl
quiet_idle (Data s place) n = refl
quiet_idle (Parity s) n = refl
quiet_idle (Stop s) n = refl

pub quiet_sound : (p : Phase) (n : ℕ) → SoundPhase p → n ≤ quiet_ticks p → SoundPhase (lessened n p)
quiet_sound Idle n sound h = sound
quiet_sound (Start s) n sound h = (sound.0, omega arith, omega arith)
quiet_sound (Data s place) n sound h = ((sound.0.0, omega arith, omega arith), sound.1)
quiet_sound (Parity s) n sound h = (sound.0, omega arith, omega arith)
quiet_sound (Stop s) n sound h = (sound.0, omega arith, omega arith)

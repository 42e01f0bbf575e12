-- A frame that is sent is received.
use Rattle.std.proofs.Common.{◌≡◌, ℕ, zero, suc, ◌+◌, ◌/◌, ◌<◌, ◌≤◌, Bool, true, false, ◌&&◌, get_or, Some, refl, ap, ◌∙◌, ap₂, mul-le-mul_right, zero-add, arith}
use native.Mathlib.Nat.{add-mul-div_right, div-eq_of_lt}
use Rattle.serial.specs.Forms.{SoundForm, has_parity}
use Rattle.serial.specs.Frames.{frame, frame_ticks, stop_place}
use Rattle.serial.specs.Laws.{Carries, Receives, Sends}
use Rattle.serial.specs.Receiving.{outcome, worth}
use Rattle.serial.specs.Samples.{gathered, reception, sample_tick}
use Rattle.serial.specs.declared.form.Form.{Form}
use Rattle.serial.proofs.Received.{receives}
use Rattle.serial.proofs.Returned.{returned}
use Rattle.serial.proofs.Sent.{long_stops, sends}

module _ (u v : ℕ → Bool) where
  same_data : (n : ℕ) → ((k : ℕ) → k ≤ n → u k ≡ v k) → gathered n u ≡ gathered n v
  same_data zero e = refl
  same_data (suc n) e = ap₂ (λ a b. a + worth n b) (same_data n (λ k h. e k (omega arith))) (e (suc n) (omega arith))

  -- only the samples up to the stop count
  same_reception : (f : Form) → ((k : ℕ) → k ≤ stop_place f → u k ≡ v k) → reception f u ≡ reception f v
  same_reception f e =
      let data-part = same_data f.length (λ k h. e k (omega arith)) in
      ap (λ n. outcome f n (has_parity f.parity && u (f.length + 1)) (u (stop_place f))) data-part
      ∙ ap₂ (λ p q. outcome f (gathered f.length v) (has_parity f.parity && p) q) (e (f.length + 1) (omega arith)) (e (stop_place f) (omega arith))

-- the k-th sample falls within the k-th level
middle : (f : Form) → SoundForm f → (k : ℕ) → sample_tick f k / f.ticks ≡ k
middle f sound k =
    let half : f.ticks / 2 / f.ticks ≡ 0 = div-eq_of_lt (omega arith) in
    add-mul-div_right (f.ticks / 2) k (omega arith) ∙ ap (λ n. n + k) half ∙ zero-add k

in_frame : (f : Form) → SoundForm f → (k : ℕ) → k ≤ stop_place f → sample_tick f k < frame_ticks f
in_frame f sound k h = omega (arith, mul-le-mul_right f.ticks h, long_stops f.stops f.ticks)

pub carries : (f : Form) (c : ℕ) → SoundForm f → Carries f c
unfolding Carries Sends Receives
carries f c sound g cts b w same =
    let heard : (k : ℕ) → k ≤ stop_place f → w (sample_tick f k) ≡ get_or (frame f c) k true =
    λ k h. same (sample_tick f k) (in_frame f sound k h) ∙ (sends f c sound g cts b).0 (sample_tick f k) (in_frame f sound k h) ∙ ap (λ n. get_or (frame f c) n true) (middle f sound k) in
    let first : f.ticks / 2 ≡ sample_tick f 0 = omega arith in
    let low : w (f.ticks / 2) ≡ false = ap w first ∙ heard 0 (omega arith) in
    ((receives f w sound).1 low).0 ∙ ap Some (same_reception (λ k. w (sample_tick f k)) (λ k. get_or (frame f c) k true) f heard ∙ returned f c)

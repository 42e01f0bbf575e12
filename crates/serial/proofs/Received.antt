-- A receiver that a fall started samples its frame, and tells what the samples come to.
use Rattle.std.proofs.Common.{◌≡◌, ℕ, zero, suc, ◌+◌, ◌-◌, ◌/◌, ◌<◌, Bool, true, false, cond, ◌&&◌, Some, None, sym, refl, subst, add-zero, suc-mul, zero-mul, add-one, arith}
use Rattle.std.proofs.lemmas.Bool.{lt-ltb, le-ltb}
use Rattle.serial.specs.Forms.{SoundForm, has_parity}
use Rattle.serial.specs.Frames.{stop_place}
use Rattle.serial.specs.Laws.{Receives, listening}
use Rattle.serial.specs.Lines.{after, tells}
use Rattle.serial.specs.Receiving.{begun, lasting, outcome, past_bit, past_data, past_start}
use Rattle.serial.specs.Samples.{gathered, sample_tick}
use Rattle.serial.specs.declared.form.Form.{Form}
use Rattle.serial.specs.declared.receiver.Receiving.{Receiving}
use Rattle.serial.specs.declared.receiver.Receiver.{Receiver}
use Rattle.serial.specs.declared.stage.Stage.TheVariants.{Idle, Start, Data, Parity, Stop}
use Rattle.serial.proofs.Heard.{Reached, at_first, data_counts, finished, parity_counts, sampled, start_counts, stop_counts}

pub next_sample : (f : Form) (k : ℕ) → sample_tick f (suc k) ≡ f.ticks + sample_tick f k
next_sample f k = omega (arith, suc-mul k f.ticks)

module _ (f : Form) (sound : SoundForm f) (w : ℕ → Bool) where
  -- the samples
  abbrev v : ℕ → Bool
  v k = w (sample_tick f k)

  -- what k data bits have brought
  abbrev so_far : ℕ → Bool → Receiving
  so_far k parity = record { form = f; character = gathered k v; parity = parity; left = f.ticks }

  abbrev Now : ℕ → Receiver → Type 0
  Now n s = Reached w (listening f) n s

  started : Now (f.ticks / 2) (past_start (begun f) (w (f.ticks / 2)))
  started =
      sampled w (listening f) (λ l. Start (lasting l (begun f))) (start_counts (begun f)) 0 (f.ticks / 2) (f.ticks / 2) (sym (add-zero (f.ticks / 2)))
      (omega arith) (λ rxd. refl) (at_first w (listening f))

  bit_heard : (k : ℕ) → Now (sample_tick f k) (Data (so_far k false) k) → Now (sample_tick f (suc k)) (past_bit (so_far (suc k) false) k)
  bit_heard k d =
      sampled w (listening f) (λ l. Data (lasting l (so_far k false)) k) (data_counts (so_far k false) k) (sample_tick f k) f.ticks (sample_tick f (suc k)) (next_sample f k)
      (omega arith) (λ rxd. refl) d

  -- the stop's sample
  abbrev Told : ℕ → Bool → Type 0
  Told k parity = (tells w (sample_tick f k) (listening f) ≡ Some (outcome f (gathered f.length v) parity (v k)))
      × ((j : ℕ) → j < sample_tick f k → tells w j (listening f) ≡ None)
      × (after w (sample_tick f k) (listening f) ≡ Idle)

  stop_heard : (k : ℕ) (parity : Bool) → Now (sample_tick f k) (Stop (so_far f.length parity)) → Told (suc k) parity
  stop_heard k parity d =
      finished w (listening f) (λ l. Stop (lasting l (so_far f.length parity))) (stop_counts (so_far f.length parity)) (sample_tick f k) f.ticks (sample_tick f (suc k)) (next_sample f k)
      (omega arith) d

  parity_heard : (k : ℕ) → Now (sample_tick f k) (Parity (so_far f.length false)) → Now (sample_tick f (suc k)) (Stop (so_far f.length (v (suc k))))
  parity_heard k d =
      sampled w (listening f) (λ l. Parity (lasting l (so_far f.length false))) (parity_counts (so_far f.length false)) (sample_tick f k) f.ticks (sample_tick f (suc k)) (next_sample f k)
      (omega arith) (λ rxd. refl) d

  tail_heard : (on : Bool) (l : ℕ) → Now (sample_tick f l) (cond on (Parity (so_far f.length false)) (Stop (so_far f.length false))) → Told (l + cond on 1 0 + 1) (on && v (l + 1))
  tail_heard true l d = rw (add-one (l + 1)) (stop_heard (l + 1) (v (l + 1)) (rw (add-one l) (parity_heard l d)))
  tail_heard false l d = rw (add-zero, add-one) (stop_heard l false d)

  module _ (low : w (f.ticks / 2) ≡ false) where
    data_heard : (k : ℕ) → k < f.length → Now (sample_tick f k) (Data (so_far k false) k)
    data_heard zero h = rw (zero-mul, add-zero) (rw low at started)
    data_heard (suc k) h =
        let next : past_bit (so_far (suc k) false) k ≡ Data (so_far (suc k) false) (suc k) =
        rw (lt-ltb (k + 1) f.length (omega arith), add-one k) in
        rw next at (bit_heard k (data_heard k (omega arith)))

    all_heard : Now (sample_tick f f.length) (past_data (so_far f.length false))
    all_heard =
        let some : suc (f.length - 1) ≡ f.length = omega arith in
        let last : past_bit (so_far (suc (f.length - 1)) false) (f.length - 1) ≡ past_data (so_far (suc (f.length - 1)) false) =
        rw (le-ltb (f.length - 1 + 1) f.length (omega arith)) in
        subst (λ k. Now (sample_tick f k) (past_data (so_far k false))) some (rw last at (bit_heard (f.length - 1) (data_heard (f.length - 1) (omega arith))))

    told : Told (stop_place f) (has_parity f.parity && v (f.length + 1))
    told = tail_heard (has_parity f.parity) f.length all_heard

-- the receiver's samples make its reception
pub receives : (f : Form) (w : ℕ → Bool) → SoundForm f → Receives f w
unfolding Receives
receives f w sound =
    (λ high. let d = rw high at (started f sound w) in (d.state, d.silent), λ low. told f sound w low)

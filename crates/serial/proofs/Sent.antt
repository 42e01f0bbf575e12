-- The levels that a transmitter sends are those of the frame.
use Rattle.std.proofs.Common.{◌≡◌, ℕ, zero, suc, ◌+◌, ◌-◌, ◌*◌, ◌/◌, ◌<◌, ◌≤◌, Bool, true, false, cond, ◌⊎◌, List, [], ◌∷◌, ◌++◌, get_or, Option, sym, refl, ap, ◌∙◌, subst, inl, inr, suc-mul, add-mul, one-mul, zero-add, zero-mul, add-one, arith}
use native.Mathlib.Nat.{div-eq_of_lt, div-eq-sub-div}
use Rattle.std.proofs.lemmas.Bool.{lt-ltb, le-ltb, cases_lt}
use Rattle.serial.specs.Forms.{SoundForm, has_parity, masked, parity_bit, stop_ticks, stops_ticks}
use Rattle.serial.specs.Frames.{bit, bits_from, frame_ticks, stop_levels}
use Rattle.serial.specs.Laws.{Sends}
use Rattle.timing.specs.Run.{times}
use Rattle.serial.specs.Sending.{bit_long, lasting, level, offered, past_bit, past_data, stopping, ticked}
use Rattle.serial.specs.declared.form.Form.{Form}
use Rattle.serial.specs.declared.form.Stops.{Stops}
use Rattle.serial.specs.declared.form.Stops.TheVariants.{One, OneAndHalf, Two}
use Rattle.serial.specs.declared.transmitter.Sending.{Sending}
use Rattle.serial.specs.Sending.{Phase}
use Rattle.serial.specs.declared.stage.Stage.TheVariants.{Start, Data, Parity, Stop}
use Rattle.serial.specs.declared.transmitter.Transmitter.{Transmitter}
use Rattle.timing.proofs.Repeats.{times_add}
use Rattle.serial.proofs.Counting.{times_count}
use Rattle.serial.proofs.Quiet.{holding, counts_start, counts_data, counts_parity, counts_stop}
use Rattle.serial.proofs.Returned.{same_parity}

-- the stops last a bit at least
pub long_stops : (stops : Stops) (s : ℕ) → s ≤ stops_ticks stops s
long_stops One s = omega arith
long_stops OneAndHalf s = omega arith
long_stops Two s = omega arith

module _ (g : Form) (cts : Bool) (b : Option ℕ) where
  abbrev later : ℕ → Phase → Transmitter
  later t p = times t (ticked g cts) (holding b p)

  -- From the phase p on the line shows the levels xs, each for s ticks, and the frame ends after n ticks.
  record Shows (s n : ℕ) (p : Phase) (xs : List Bool) : Type 0 where
    shown : (t : ℕ) → t < n → level (later t p).phase ≡ get_or xs (t / s) true
    ends : later n p ≡ offered g cts b

  module _ (at : ℕ → Phase) (counts : (l : ℕ) → 1 < l → ticked g cts (holding b (at l)) ≡ holding b (at (l - 1))) where
    -- a phase with l ticks left, t ticks later
    within : (t l : ℕ) → t < l → later t (at l) ≡ holding b (at (l - t))
    within t l h = times_count (ticked g cts) (λ k. holding b (at k)) counts t l h

    -- and with its last tick
    whole : (l : ℕ) → 0 < l → later l (at l) ≡ ticked g cts (holding b (at 1))
    whole l h =
        let split : l ≡ l - 1 + 1 = omega arith in
        let one : l - (l - 1) ≡ 1 = omega arith in
        ap (λ k. later k (at l)) split ∙ times_add (l - 1) 1 (ticked g cts) (holding b (at l))
        ∙ ap (ticked g cts) (within (l - 1) l (omega arith)) ∙ ap (λ k. ticked g cts (holding b (at k))) one

    -- one level more in front
    level_more : (x : Bool) (q : Phase) → ((l : ℕ) → level (at l) ≡ x) → ticked g cts (holding b (at 1)) ≡ holding b q → (s n : ℕ) (xs : List Bool) → 0 < s → Shows s n q xs → Shows s (s + n) (at s) (x ∷ xs)
    level_more x q same last s n xs some rest = record {
      shown = λ t h. split t h (cases_lt t s);
      ends = times_add s n (ticked g cts) (holding b (at s)) ∙ ap (times n (ticked g cts)) (whole s some ∙ last) ∙ rest.ends;
    }
      where
        split : (t : ℕ) → t < s + n → (t < s) ⊎ (s ≤ t) → level (later t (at s)).phase ≡ get_or (x ∷ xs) (t / s) true
        split t h (inl low) =
            ap (λ u. level u.phase) (within t s low) ∙ same (s - t) ∙ ap (λ k. get_or (x ∷ xs) k true) (sym (div-eq_of_lt low))
        split t h (inr high) =
            let apart : t ≡ s + (t - s) = omega arith in
            let fewer : t - s < n = omega arith in
            let place : t / s ≡ suc ((t - s) / s) = div-eq-sub-div some high ∙ add-one ((t - s) / s) in
            ap (λ u. level u.phase) (ap (λ k. later k (at s)) apart ∙ times_add s (t - s) (ticked g cts) (holding b (at s)) ∙ ap (times (t - s) (ticked g cts)) (whole s some ∙ last))
            ∙ rest.shown (t - s) fewer ∙ ap (λ k. get_or (x ∷ xs) k true) (sym place)

  high_stops : (stops : Stops) (i : ℕ) → get_or (stop_levels stops) i true ≡ true
  high_stops One zero = refl
  high_stops One (suc i) = refl
  high_stops OneAndHalf zero = refl
  high_stops OneAndHalf (suc zero) = refl
  high_stops OneAndHalf (suc (suc i)) = refl
  high_stops Two zero = refl
  high_stops Two (suc zero) = refl
  high_stops Two (suc (suc i)) = refl

  module _ (x : Sending) (sound : SoundForm x.form) where
    stop_shows : Shows x.form.ticks (stop_ticks x.form) (stopping x) (stop_levels x.form.stops)
    stop_shows = record {
      shown = λ t h. ap (λ u. level u.phase) (within (λ l. Stop (lasting l x)) (counts_stop g cts b x) t (stop_ticks x.form) h) ∙ sym (high_stops x.form.stops (t / x.form.ticks));
      ends = whole (λ l. Stop (lasting l x)) (counts_stop g cts b x) (stop_ticks x.form) (omega (arith, long_stops x.form.stops x.form.ticks));
    }

    parity_shows : (on : Bool) → Shows x.form.ticks (cond on 1 0 * x.form.ticks + stop_ticks x.form) (cond on (Parity (bit_long x)) (stopping x)) (cond on (parity_bit x.form x.character ∷ []) [] ++ stop_levels x.form.stops)
    parity_shows true =
        rw (one-mul) (level_more (λ l. Parity (lasting l x)) (counts_parity g cts b x) (parity_bit x.form x.character) (stopping x) (λ l. refl) refl
        x.form.ticks (stop_ticks x.form) (stop_levels x.form.stops) (omega arith) stop_shows)
    parity_shows false = rw (zero-mul, zero-add) stop_shows

    abbrev on : Bool
    on = has_parity x.form.parity

    abbrev tail_ticks : ℕ
    tail_ticks = cond on 1 0 * x.form.ticks + stop_ticks x.form

    abbrev tail : List Bool
    tail = cond on (parity_bit x.form x.character ∷ []) [] ++ stop_levels x.form.stops

    -- a data bit, where the line shows xs after it
    bit_shows : (place n : ℕ) (xs : List Bool) → Shows x.form.ticks n (past_bit x place) xs → Shows x.form.ticks (x.form.ticks + n) (Data (bit_long x) place) (bit x.character place ∷ xs)
    bit_shows place n xs rest =
        level_more (λ l. Data (lasting l x) place) (counts_data g cts b x place) (bit x.character place) (past_bit x place) (λ l. refl) refl x.form.ticks n xs (omega arith) rest

    data_shows : (m place : ℕ) → place + suc m ≡ x.form.length → Shows x.form.ticks (suc m * x.form.ticks + tail_ticks) (Data (bit_long x) place) (bits_from (suc m) place x.character ++ tail)
    data_shows zero place e =
        let last : past_bit x place ≡ past_data x = rw (le-ltb (place + 1) x.form.length (omega arith)) in
        rw (one-mul) (bit_shows place tail_ticks tail (rw last (parity_shows on)))
    data_shows (suc m) place e =
        let next : past_bit x place ≡ Data (bit_long x) (place + 1) = rw (lt-ltb (place + 1) x.form.length (omega arith)) in
        let long : suc (suc m) * x.form.ticks + tail_ticks ≡ x.form.ticks + (suc m * x.form.ticks + tail_ticks) = omega (arith, suc-mul (suc m) x.form.ticks) in
        rw long (bit_shows place (suc m * x.form.ticks + tail_ticks) (bits_from (suc m) (place + 1) x.character ++ tail) (rw next (data_shows m (place + 1) (omega arith))))

    all_shown : Shows x.form.ticks (frame_ticks x.form) (Start (bit_long x)) (false ∷ (bits_from x.form.length 0 x.character ++ tail))
    all_shown =
        let s = x.form.ticks in
        let some : suc (x.form.length - 1) ≡ x.form.length = omega arith in
        let whole-data : Shows s (x.form.length * s + tail_ticks) (Data (bit_long x) 0) (bits_from x.form.length 0 x.character ++ tail) =
        subst (λ n. Shows s (n * s + tail_ticks) (Data (bit_long x) 0) (bits_from n 0 x.character ++ tail)) some (data_shows (x.form.length - 1) 0 (omega arith)) in
        let long : frame_ticks x.form ≡ s + (x.form.length * s + tail_ticks) =
        omega (arith, add-mul (x.form.length + cond on 1 0) 1 s, add-mul x.form.length (cond on 1 0) s, one-mul s) in
        rw long (level_more (λ l. Start (lasting l x)) (counts_start g cts b x) false (Data (bit_long x) 0) (λ l. refl) refl s (x.form.length * s + tail_ticks) (bits_from x.form.length 0 x.character ++ tail) (omega arith) whole-data)

-- a loaded character is sent as its frame
pub sends : (f : Form) (c : ℕ) → SoundForm f → Sends f c
unfolding Sends
sends f c sound g cts b =
    let d = all_shown g cts b (record { form = f; character = masked f c; left = f.ticks }) sound in
    (rw same_parity at d.shown, d.ends)

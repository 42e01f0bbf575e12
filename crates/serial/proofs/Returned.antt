-- The levels of a frame give its character back.
use Rattle.std.proofs.Common.{◌≡◌, ℕ, zero, suc, ◌+◌, ◌*◌, ◌/◌, ◌%◌, ◌^◌, ◌<◌, Bool, true, false, cond, not, ◌&&◌, ◌||◌, eqb, List, [], ◌∷◌, ◌++◌, get_or, Some, None, Option, sym, refl, ap, ◌∙◌, ap₂, add-zero, mod-lt, add_comm, suc-add, one-mul, zero-add, zero-mul, add-one, one-add, arith, lit<}
use native.Mathlib.Nat.{mod-mod, mod-one}
use lib.Count.{ones}
use Rattle.std.proofs.lemmas.Nat.{mod-pow-add}
use Rattle.std.proofs.lemmas.Bool.{or_right}
use Rattle.serial.specs.Forms.{has_parity, masked, parity_bit, sense}
use Rattle.serial.specs.Frames.{bit, bits_from, frame, parity_levels, stop_levels, stop_place}
use Rattle.serial.specs.Laws.{Returns}
use Rattle.serial.specs.Receiving.{differ, outcome, worth}
use Rattle.serial.specs.Samples.{gathered}
use Rattle.serial.specs.declared.form.Form.{Form}
use Rattle.serial.specs.declared.form.Parity.{Parity}
use Rattle.serial.specs.declared.form.Parity.TheVariants.{Even, Odd}
use Rattle.serial.specs.declared.form.Stops.{Stops}
use Rattle.serial.specs.declared.form.Stops.TheVariants.{One, OneAndHalf, Two}
use Rattle.serial.specs.declared.receiver.Reception.TheVariants.{Character}

-- ---- places of the list

bits_at : (n place c : ℕ) (tail : List Bool) (p : ℕ) → p < n → get_or (bits_from n place c ++ tail) p true ≡ bit c (place + p)
bits_at zero place c tail p h = absurd (omega arith)
bits_at (suc n) place c tail zero h = ap (bit c) (sym (add-zero place))
bits_at (suc n) place c tail (suc p) h =
    let same : place + 1 + p ≡ place + suc p = omega arith in
    bits_at n (place + 1) c tail p (omega arith) ∙ ap (bit c) same

past_bits : (n place c : ℕ) (tail : List Bool) (j : ℕ) → get_or (bits_from n place c ++ tail) (n + j) true ≡ get_or tail j true
past_bits zero place c tail j = ap (λ k. get_or tail k true) (zero-add j)
past_bits (suc n) place c tail j = ap (λ k. get_or (bit c place ∷ (bits_from n (place + 1) c ++ tail)) k true) (suc-add n j) ∙ past_bits n (place + 1) c tail j

-- ---- the data

digit : (d x : ℕ) → d < 2 → cond (eqb d 1) x 0 ≡ d * x
digit zero x h = sym (zero-mul x)
digit (suc zero) x h = sym (one-mul x)
digit (suc (suc d)) x h = absurd (omega arith)

worth_bit : (m n : ℕ) → worth n (bit m n) ≡ (m / 2 ^ n % 2) * 2 ^ n
worth_bit m n = digit (m / 2 ^ n % 2) (2 ^ n) (mod-lt (m / 2 ^ n) (lit< tt))

-- the first n bits are the number below 2 ^ n
low_bits : (m n : ℕ) (v : ℕ → Bool) → ((p : ℕ) → p < n → v (suc p) ≡ bit m p) → gathered n v ≡ m % 2 ^ n
low_bits m zero v e = sym (mod-one m)
low_bits m (suc n) v e =
    ap₂ (λ a b. a + b) (low_bits m n v (λ p h. e p (omega arith))) (ap (worth n) (e n (omega arith)) ∙ worth_bit m n)
    ∙ add_comm (m % 2 ^ n) ((m / 2 ^ n % 2) * 2 ^ n) ∙ sym (mod-pow-add m 1 n) ∙ ap (λ k. m % 2 ^ k) (one-add n)

-- ---- the parity and the stop

parity_level : (q : Option Parity) (odd : Bool) (ys : List Bool) → (has_parity q && get_or (cond (has_parity q) (sense q odd ∷ []) [] ++ ys) 0 true) ≡ sense q odd
parity_level None odd ys = refl
parity_level (Some Even) odd ys = refl
parity_level (Some Odd) odd ys = refl

stop_level : (h x : Bool) (stops : Stops) → get_or (cond h (x ∷ []) [] ++ stop_levels stops) (cond h 1 0) true ≡ true
stop_level true x One = refl
stop_level true x OneAndHalf = refl
stop_level true x Two = refl
stop_level false x One = refl
stop_level false x OneAndHalf = refl
stop_level false x Two = refl

no_difference : (b : Bool) → differ b b ≡ false
no_difference true = refl
no_difference false = refl

pub masked_again : (f : Form) (c : ℕ) → masked f (masked f c) ≡ masked f c
masked_again f c = mod-mod c (2 ^ f.length)

pub same_parity : (f : Form) (c : ℕ) → parity_bit f (masked f c) ≡ parity_bit f c
same_parity f c = ap (λ m. sense f.parity (eqb (ones m % 2) 1)) (masked_again f c)

-- a high stop and the right parity bit leave the character without an error
clean : (f : Form) (m : ℕ) → outcome f m (parity_bit f m) true ≡ Character m false false
clean f m = rw (or_right (not (eqb m 0) || parity_bit f m) true refl, no_difference (parity_bit f m))

module _ (f : Form) (c : ℕ) where
  tail : List Bool
  tail = parity_levels f c ++ stop_levels f.stops

  shown : ℕ → Bool
  shown k = get_or (frame f c) k true

  data_back : gathered f.length shown ≡ masked f c
  unfolding shown tail
  data_back =
      low_bits (masked f c) f.length shown (λ p h. bits_at f.length 0 (masked f c) tail p h ∙ ap (bit (masked f c)) (zero-add p))
      ∙ masked_again f c

  past_data : (j : ℕ) → shown (f.length + j + 1) ≡ get_or tail j true
  unfolding shown tail
  past_data j = ap (λ k. get_or (frame f c) k true) (add-one (f.length + j)) ∙ past_bits f.length 0 (masked f c) tail j

  parity_back : (has_parity f.parity && shown (f.length + 1)) ≡ parity_bit f (masked f c)
  unfolding shown tail
  parity_back =
      let place : f.length + 1 ≡ f.length + 0 + 1 = omega arith in
      ap (λ x. has_parity f.parity && x) (ap shown place ∙ past_data 0)
      ∙ parity_level f.parity (eqb (ones (masked f c) % 2) 1) (stop_levels f.stops) ∙ sym (same_parity f c)

  stop_back : shown (stop_place f) ≡ true
  unfolding shown tail
  stop_back = past_data (cond (has_parity f.parity) 1 0) ∙ stop_level (has_parity f.parity) (parity_bit f c) f.stops

  pub returned : Returns f c
  unfolding shown
  returned =
      ap (λ n. outcome f n (has_parity f.parity && shown (f.length + 1)) (shown (stop_place f))) data_back
      ∙ ap₂ (λ x y. outcome f (masked f c) x y) parity_back stop_back ∙ clean f (masked f c)

-- The receiver between its samples.
use Rattle.std.proofs.Common.{◌≡◌, ℕ, zero, suc, ◌+◌, ◌-◌, ◌<◌, ◌≤◌, Bool, ◌⊎◌, None, refl, ap, ◌∙◌, subst, inl, inr, add-zero, suc-add, zero-add, arith}
use Rattle.std.proofs.lemmas.Bool.{lt-ltb, cases_lt}
use Rattle.serial.specs.Lines.{after, tells}
use Rattle.serial.specs.Receiving.{SoundReceiver, lasting, lessened, passed, quiet_ticks, told}
use Rattle.serial.specs.declared.receiver.Receiving.{Receiving}
use Rattle.serial.specs.declared.receiver.Receiver.{Receiver}
use Rattle.serial.specs.declared.stage.Stage.TheVariants.{Idle, Start, Data, Parity, Stop}

-- A state that counts down, and tells nothing meanwhile.
pub record Countdown (at : ℕ → Receiver) : Type 0 where
  pub one : (rxd : Bool) (l : ℕ) → 1 < l → passed rxd (at l) ≡ at (l - 1)
  pub mute : (rxd : Bool) (l : ℕ) → 1 < l → told rxd (at l) ≡ None

pub start_counts : (x : Receiving) → Countdown (λ l. Start (lasting l x))
start_counts x = record { one = λ rxd l h. rw (lt-ltb 1 l h); mute = λ rxd l h. refl }

pub data_counts : (x : Receiving) (place : ℕ) → Countdown (λ l. Data (lasting l x) place)
data_counts x place = record { one = λ rxd l h. rw (lt-ltb 1 l h); mute = λ rxd l h. refl }

pub parity_counts : (x : Receiving) → Countdown (λ l. Parity (lasting l x))
parity_counts x = record { one = λ rxd l h. rw (lt-ltb 1 l h); mute = λ rxd l h. refl }

pub stop_counts : (x : Receiving) → Countdown (λ l. Stop (lasting l x))
stop_counts x = record { one = λ rxd l h. rw (lt-ltb 1 l h); mute = λ rxd l h. rw (lt-ltb 1 l h) }

module _ (w : ℕ → Bool) (r : Receiver) where
  -- After n ticks the receiver is s, and no tick told anything.
  pub record Reached (n : ℕ) (s : Receiver) : Type 0 where
    pub state : after w n r ≡ s
    pub silent : (k : ℕ) → k ≤ n → tells w k r ≡ None

  pub at_first : Reached 0 r
  at_first = record { state = refl; silent = λ k h. let none : k ≡ 0 = omega arith in ap (λ j. tells w j r) none }

  -- one tick more that tells nothing
  pub tick_more : (n : ℕ) (s : Receiver) → Reached n s → told (w (suc n)) s ≡ None → Reached (suc n) (passed (w (suc n)) s)
  tick_more n s d e = record {
    state = ap (passed (w (suc n))) d.state;
    silent = λ k h. within k h (cases_lt k (suc n));
  }
    where
      within : (k : ℕ) → k ≤ suc n → (k < suc n) ⊎ (suc n ≤ k) → tells w k r ≡ None
      within k h (inl low) = d.silent k (omega arith)
      within k h (inr high) =
          let same : k ≡ suc n = omega arith in
          ap (λ j. tells w j r) same ∙ ap (told (w (suc n))) d.state ∙ e

  module _ (at : ℕ → Receiver) (c : Countdown at) where
    -- j ticks before the next sample
    pub counted : (n l j : ℕ) → j < l → Reached n (at l) → Reached (j + n) (at (l - j))
    counted n l zero h d = let all : l - 0 ≡ l = omega arith in rw (zero-add n, all) d
    counted n l (suc j) h d =
        let before : Reached (j + n) (at (l - j)) = counted n l j (omega arith) d in
        let some : 1 < l - j = omega arith in
        let next = tick_more (j + n) (at (l - j)) before (c.mute (w (suc (j + n))) (l - j) some) in
        let less : l - j - 1 ≡ l - suc j = omega arith in
        rw (suc-add, ← less, ← c.one (w (suc (j + n))) (l - j) some) next

    -- up to the tick that samples
    pub before_sample : (n l : ℕ) → 0 < l → Reached n (at l) → Reached (l - 1 + n) (at 1)
    before_sample n l h d = let one : l - (l - 1) ≡ 1 = omega arith in rw one at (counted n l (l - 1) (omega arith) d)

    -- a sample that tells nothing
    pub sampled : (n l m : ℕ) → m ≡ l + n → 0 < l → ((rxd : Bool) → told rxd (at 1) ≡ None) → Reached n (at l) → Reached m (passed (w m) (at 1))
    sampled n l m e h mute d =
        let last : suc (l - 1 + n) ≡ m = omega arith in
        subst (λ k. Reached k (passed (w k) (at 1))) last (tick_more (l - 1 + n) (at 1) (before_sample n l h d) (mute (w (suc (l - 1 + n)))))

    -- a sample that tells something
    pub finished : (n l m : ℕ) → m ≡ l + n → 0 < l → Reached n (at l)
        → (tells w m r ≡ told (w m) (at 1)) × ((k : ℕ) → k < m → tells w k r ≡ None) × (after w m r ≡ passed (w m) (at 1))
    finished n l m e h d =
        let last : suc (l - 1 + n) ≡ m = omega arith in
        let before : Reached (l - 1 + n) (at 1) = before_sample n l h d in
        subst (λ k. (tells w k r ≡ told (w k) (at 1)) × ((j : ℕ) → j < k → tells w j r ≡ None) × (after w k r ≡ passed (w k) (at 1))) last
        (ap (told (w (suc (l - 1 + n)))) before.state, λ j g. before.silent j (omega arith), ap (passed (w (suc (l - 1 + n)))) before.state)

-- ticks within the horizon take off as many, and tell nothing
pub quiet_heard : (w : ℕ → Bool) (p : Receiver) (n : ℕ) → SoundReceiver p → n ≤ quiet_ticks p → Reached w p n (lessened n p)
quiet_heard w Idle zero sound h = at_first w Idle
quiet_heard w Idle (suc n) sound h = tick_more w Idle n Idle (quiet_heard w Idle n sound (omega arith)) refl
quiet_heard w (Start x) n sound h =
    rw add-zero at (counted w (Start x) (λ l. Start (lasting l x)) (start_counts x) 0 x.left n (omega arith) (at_first w (Start x)))
quiet_heard w (Data x place) n sound h =
    rw add-zero at (counted w (Data x place) (λ l. Data (lasting l x) place) (data_counts x place) 0 x.left n (omega arith) (at_first w (Data x place)))
quiet_heard w (Parity x) n sound h =
    rw add-zero at (counted w (Parity x) (λ l. Parity (lasting l x)) (parity_counts x) 0 x.left n (omega arith) (at_first w (Parity x)))
quiet_heard w (Stop x) n sound h =
    rw add-zero at (counted w (Stop x) (λ l. Stop (lasting l x)) (stop_counts x) 0 x.left n (omega arith) (at_first w (Stop x)))

pub quiet_after : (w : ℕ → Bool) (p : Receiver) (n : ℕ) → SoundReceiver p → n ≤ quiet_ticks p → after w n p ≡ lessened n p
quiet_after w p n sound h = (quiet_heard w p n sound h).state

pub quiet_silence : (w : ℕ → Bool) (p : Receiver) (n k : ℕ) → SoundReceiver p → n ≤ quiet_ticks p → k ≤ n → tells w k p ≡ None
quiet_silence w p n k sound h = (quiet_heard w p n sound h).silent k

-- ---- for callers that reason over many ticks

-- a quiet tick takes one off
pub quiet_tick : (rxd : Bool) (p : Receiver) → SoundReceiver p → 1 ≤ quiet_ticks p → passed rxd p ≡ lessened 1 p
quiet_tick rxd p sound h = (quiet_heard (λ k. rxd) p 1 sound h).state

-- and tells nothing
pub quiet_told : (rxd : Bool) (p : Receiver) → 1 ≤ quiet_ticks p → told rxd p ≡ None
quiet_told rxd Idle h = refl
quiet_told rxd (Start x) h = refl
quiet_told rxd (Data x place) h = refl
quiet_told rxd (Parity x) h = refl
quiet_told rxd (Stop x) h = rw (lt-ltb 1 x.left (omega arith))

-- what is left stays quiet
pub quiet_rest : (p : Receiver) (n m : ℕ) → n + m ≤ quiet_ticks p → m ≤ quiet_ticks (lessened n p)
quiet_rest Idle n m h = omega arith
quiet_rest (Start x) n m h = omega arith
quiet_rest (Data x place) n m h = omega arith
quiet_rest (Parity x) n m h = omega arith
quiet_rest (Stop x) n m h = omega arith

pub quiet_sound : (p : Receiver) (n : ℕ) → SoundReceiver p → n ≤ quiet_ticks p → SoundReceiver (lessened n p)
quiet_sound Idle n sound h = sound
quiet_sound (Start x) n sound h = (sound.0, omega arith, omega arith, sound.3)
quiet_sound (Data x place) n sound h = ((sound.0.0, omega arith, omega arith, sound.0.3), sound.1)
quiet_sound (Parity x) n sound h = (sound.0, omega arith, omega arith, sound.3)
quiet_sound (Stop x) n sound h = (sound.0, omega arith, omega arith, sound.3)

use Rattle.std.proofs.Common.{◌≡◌, ℕ, zero, suc, ◌+◌, ◌-◌, ◌<◌, Bool, sym, refl, ap, ◌∙◌, suc-add, zero-add, arith}
use Rattle.line.specs.Meaning.{Meaning, Steady, shown, ticked, elapsed}
use Rattle.line.specs.LastHeard.{last_heard}

-- n clocks and then k clocks are n + k clocks.
pub elapsed_add : (n k : ℕ) (m : Meaning) → elapsed (n + k) m ≡ elapsed k (elapsed n m)
elapsed_add zero k m = rw zero-add
elapsed_add (suc n) k m = rw suc-add (elapsed_add n k (ticked m))

-- Before a quiet number is over the level is as it was.
pub steady_before : (n k : ℕ) (m : Meaning) → Steady n m → k < n → shown (elapsed k m) ≡ shown m
steady_before n k m s h = s.same k h

-- What is left of a quiet number after some of its clocks is quiet too.
pub steady_after : (n k : ℕ) (m : Meaning) → Steady n m → k < n → Steady (n - k) (elapsed k m)
steady_after n k m s h =
    let most = s.most in
    record {
      some = omega arith;
      most = omega arith;
      same = λ j l. ap shown (sym (elapsed_add k j m)) ∙ s.same (k + j) (omega arith) ∙ sym (s.same k h);
    }

-- A loopback plug does not change with the clocks.
pub last_heard_stays : (n : ℕ) (b : Bool) → elapsed n (last_heard b) ≡ last_heard b
last_heard_stays zero b = refl
last_heard_stays (suc n) b = last_heard_stays n b

-- So it is quiet for as long as a partner can be.
pub last_heard_steady : (b : Bool) → Steady 16777216 (last_heard b)
last_heard_steady b = record { some = omega arith; most = omega arith; same = λ k h. ap shown (last_heard_stays k b) }

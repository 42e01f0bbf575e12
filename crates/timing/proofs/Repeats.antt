-- Laws of one step many times, over any state.
use Rattle.std.proofs.Common.{◌≡◌, ℕ, zero, suc, ◌+◌, false, refl, suc-add, zero-add}
use Rattle.timing.specs.Run.{times, when}

-- n + m times is n times and then m times.
pub times_add : {S : Type 0} (n m : ℕ) (f : S → S) (s : S) → times (n + m) f s ≡ times m f (times n f s)
times_add zero m f s = rw zero-add
times_add (suc n) m f s = rw suc-add (times_add n m f (f s))

-- The last step of suc n stands apart as well as the first.
pub times_suc : {S : Type 0} (n : ℕ) (f : S → S) (s : S) → times (suc n) f s ≡ f (times n f s)
times_suc zero f s = refl
times_suc (suc n) f s = times_suc n f (f s)

-- A step that is not taken, any number of times.
pub times_still : {S : Type 0} (n : ℕ) (f : S → S) (s : S) → times n (when false f) s ≡ s
times_still zero f s = refl
times_still (suc n) f s = times_still n f s

-- What n steps of a timer and of a duo come to.
use Rattle.std.proofs.Common.{◌≡◌, ℕ, zero, suc, ◌<◌, Bool, true, false, cond, sym, refl, ap, ◌∙◌, arith}
use Rattle.std.proofs.lemmas.Nat.{div-mul-add, mod-mul-add, div-add-mod', mod_below}
use Rattle.timing.specs.Run.{times, when}
use Rattle.timing.proofs.Repeats.{times_still}
use Rattle.timers.specs.declared.timer.Timer.{Timer}
use Rattle.timers.specs.declared.duo.Duo.{Duo}
use Rattle.timers.specs.declared.duo.Drive.TheVariants.{Apart, Joined}
use Rattle.timers.specs.Counts.{lowered, ticked}
use Rattle.timers.specs.Duos.{value_of, parted, pair_ticked, duo_stepped}

-- A timer goes as its count does.
pub ticked_times : (n : ℕ) (on : Bool) (t : Timer) → times n (when on ticked) t ≡ record { count = times n (when on (lowered 256)) t.count }
ticked_times zero on t = refl
ticked_times (suc n) true t = ticked_times n true (ticked t)
ticked_times (suc n) false t = ticked_times n false t

-- A joined count and its two timers say the same.
pub value_parted : (v : ℕ) → value_of (parted v) ≡ v
value_parted v = div-add-mod' v 256

pub parted_value : (d : Duo) → d.low.count < 256 → parted (value_of d) ≡ d
parted_value d h =
    let l = mod-mul-add d.high.count 256 d.low.count h in
    let u = div-mul-add d.high.count 256 d.low.count h in
    λ i. record { low = record { count = l i }; high = record { count = u i } }

-- A duo that is joined goes as its joined count does.
pub pair_value : (n : ℕ) (on : Bool) (d : Duo) → value_of (times n (when on pair_ticked) d) ≡ times n (when on (lowered 65536)) (value_of d)
pair_value zero on d = refl
pair_value (suc n) true d = pair_value n true (pair_ticked d) ∙ ap (times n (lowered 65536)) (value_parted (lowered 65536 (value_of d)))
pair_value (suc n) false d = pair_value n false d

pair_low : (n : ℕ) (on : Bool) (d : Duo) → d.low.count < 256 → (times n (when on pair_ticked) d).low.count < 256
pair_low zero on d h = h
pair_low (suc n) true d h = pair_low n true (pair_ticked d) (mod_below (lowered 65536 (value_of d)) 256 (omega arith))
pair_low (suc n) false d h = pair_low n false d h

-- Apart, each timer goes its own way.
apart_timers : (n : ℕ) (l h : Bool) (d : Duo) → times n (duo_stepped (Apart l h)) d ≡ record { low = times n (when l ticked) d.low; high = times n (when h ticked) d.high }
apart_timers zero l h d = refl
apart_timers (suc n) l h d = apart_timers n l h (duo_stepped (Apart l h) d)

pub apart_times : (n : ℕ) (l h : Bool) (d : Duo)
    → times n (duo_stepped (Apart l h)) d
    ≡ record { low = record { count = times n (when l (lowered 256)) d.low.count }; high = record { count = times n (when h (lowered 256)) d.high.count } }
apart_times n l h d = apart_timers n l h d ∙ (λ i. record { low = ticked_times n l d.low i; high = ticked_times n h d.high i })

-- Each timer lapses or stays.
timer_at_once : (n : ℕ) (on : Bool) (t : Timer) → times n (when on ticked) t ≡ record { count = cond on (times n (lowered 256) t.count) t.count }
timer_at_once n true t = ticked_times n true t
timer_at_once n false t = times_still n ticked t

pub apart_at_once : (n : ℕ) (l h : Bool) (d : Duo)
    → times n (duo_stepped (Apart l h)) d
    ≡ record { low = record { count = cond l (times n (lowered 256) d.low.count) d.low.count }; high = record { count = cond h (times n (lowered 256) d.high.count) d.high.count } }
apart_at_once n l h d = apart_timers n l h d ∙ (λ i. record { low = timer_at_once n l d.low i; high = timer_at_once n h d.high i })

-- Joined, the two go as their joined count does, or stay.
pub joined_on : (n : ℕ) (d : Duo) → d.low.count < 256 → times n (duo_stepped (Joined true)) d ≡ parted (times n (lowered 65536) (value_of d))
joined_on n d h = sym (parted_value (times n (when true pair_ticked) d) (pair_low n true d h)) ∙ ap parted (pair_value n true d)

pub joined_off : (n : ℕ) (d : Duo) → times n (duo_stepped (Joined false)) d ≡ d
joined_off n d = times_still n pair_ticked d

-- What the command bytes give is within bounds.
use Rattle.std.proofs.Common.{ℕ, ◌%◌, ◌<◌, ◌≤◌, eqb, arith, rules}
use Rattle.std.proofs.lemmas.Bool.{cond_both}
use Rattle.serial.specs.Forms.{SoundForm, form_of}
use Rattle.serial.specs.Rates.{rate_step, ticks_of}

-- command 2 may be any number
pub form_sound : (command1 command2 : ℕ) → command1 < 256 → SoundForm (form_of command1 command2)
form_sound c1 c2 h =
    let t : (32 ≤ ticks_of c2) × (ticks_of c2 ≤ 64) = cond_both (eqb (c2 % 16) 3) 32 64 (λ n. (32 ≤ n) × (n ≤ 64)) (λ e. (omega arith, omega arith)) (λ e. (omega arith, omega arith)) in
    (omega arith, omega arith, t.0, t.1)

pub rate_bound : (command2 : ℕ) → rate_step command2 ≤ 614400
rate_bound c2 = search rules

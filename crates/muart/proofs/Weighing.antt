-- The status byte as the sum of what its bits are worth.
use Rattle.std.proofs.Common.{◌≡◌, ℕ, ◌*◌, Bool, true, false, cond, not, is_some, [], ◌∷◌, arith}
use Rattle.bits.specs.Bytes.{byte}
use Rattle.serial.specs.declared.transmitter.Transmitter.{Transmitter}
use Rattle.serial.specs.Sending.{idle}
use Rattle.muart.specs.declared.state.Flags.{Flags}
use Rattle.muart.specs.Reading.{weighs, status_byte}

worth : (b : Bool) (w : ℕ) → weighs b w ≡ w * cond b 1 0
worth true w = omega arith
worth false w = omega arith

pub status_bits : (int : Bool) (t : Transmitter) (f : Flags)
    → byte (f.fe ∷ f.oe ∷ f.pe ∷ f.bd ∷ idle t.phase ∷ not (is_some t.buffer) ∷ f.rbf ∷ int ∷ []) ≡ status_byte int t f
status_bits int t f =
    omega (arith, worth f.oe 2, worth f.pe 4, worth f.bd 8, worth (idle t.phase) 16, worth (not (is_some t.buffer)) 32, worth f.rbf 64, worth int 128)

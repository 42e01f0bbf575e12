use Rattle.std.proofs.Common.{◌≡◌, ◌+◌, ◌*◌, ◌^◌, drop}
use Rattle.bits.specs.Bytes.{byte}
use Rattle.bits.proofs.flags.byte_of.Given as goal

abbrev pub invariant-loop-place : goal.invariant-loop-place
invariant-loop-place l = l.byte + 2 ^ l.place * byte (drop l.place l.set) ≡ byte l.set

use Rattle.std.proofs.Common.{◌≡◌, ap, ◌∙◌, arith}
use Rattle.std.proofs.lemmas.Grind.{common_steps}
use Rattle.bits.specs.Bytes.{flags, byte}
use Rattle.bits.proofs.Packing.{adds_more, adds_within, flags_byte}
use Rattle.bits.proofs.flags.byte_of.Goals as goal

pub overflow_add-byte : goal.overflow_add-byte
overflow_add-byte c =
    let within = adds_within c.args.set.now c.loop-place.place _ _ c.told-set (omega arith) c.loop-place.invariant c.weight-byte.ensures in
    omega arith

pub loop-place-preserved : goal.loop-place-preserved
loop-place-preserved c = adds_more c.args.set.now c.loop-place.place _ _ (omega arith) c.loop-place.invariant c.weight-byte.ensures

pub returns-clause-back : goal.returns-clause-back
returns-clause-back c =
    let e : c.loop-place.byte ≡ byte c.args.set.now = grind (arith, common_steps) in
    ap flags e ∙ flags_byte c.args.set.now c.told-set

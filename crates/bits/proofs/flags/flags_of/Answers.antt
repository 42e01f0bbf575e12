use Rattle.std.proofs.Common.{rules, ◌==◌, ◌/◌, ◌%◌, ◌^◌, false, ap, ◌∙◌, arith}
use Rattle.bits.specs.Bytes.{byte}
use Rattle.bits.proofs.Made.{made}
use Rattle.bits.proofs.Packing.{byte_flags, flags_made}
use Rattle.bits.proofs.flags.flags_of.Goals as goal

pub returns : goal.returns
returns c =
    let e = made _ (λ k. c.args.word / 2 ^ k % 2 == 1) _ (λ i y q k. search rules) c.from_fn.result 8 false c.from_fn.ensures.items
    ∙ flags_made c.args.word in
    record { bits = e; back = ap byte e ∙ byte_flags c.args.word (omega arith) }

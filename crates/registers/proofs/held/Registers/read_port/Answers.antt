use Rattle.std.proofs.Common.{ℕ, Bool, false, rules, ap, ◌∙◌}
use Rattle.bits.specs.Bytes.{byte}
use Rattle.bits.proofs.Made.{made}
use Rattle.registers.specs.Ports.{level_at, pin_at}
use Rattle.registers.proofs.Bytes.{byte_made}
use Rattle.registers.proofs.held.Registers.read_port.Goals as goal

pub returns : goal.returns
returns c =
    let f : ℕ → Bool = λ n. level_at c.args.self.now c.args.pins.now (pin_at c.args.port n) in
    let e = made _ f _ (λ i y q k. search rules) c.from_fn.result 8 false c.from_fn.ensures.items in
    c.byte_of.ensures.bits ∙ ap byte e ∙ byte_made f

use Rattle.std.proofs.Common.{rules}
use Rattle.refusals.specs.declared.refusal.Refusal.TheVariants.{AddressTooHigh, NoSuchRegister}
use Rattle.registers.proofs.Found.{found_alike}
use Rattle.registers.proofs.latch.Latched.strobe.Goals as goal

pub returns : goal.returns
returns c =
    let few = c.in_ok-number.ensures.few c.if-self-gt31.false in
    let alike = found_alike c.in_ok-number.number NoSuchRegister AddressTooHigh few in
    search rules

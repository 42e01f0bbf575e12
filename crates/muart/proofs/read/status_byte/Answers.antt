use Rattle.muart.proofs.Weighing.{status_bits}
use Rattle.muart.proofs.read.status_byte.Goals as goal

pub returns : goal.returns
returns c = rw (c.byte_of.ensures.bits, c.tre.ensures, c.tbe.ensures) (status_bits _ _ _)

use Rattle.std.proofs.Common.{◌≡◌, ◌≤◌, length, drop}
use Rattle.muart.specs.Looks.{all_known, looked}
use Rattle.muart.proofs.Looking.{so_far}
use Rattle.muart.proofs.look.look.Given as goal

abbrev pub invariant-loop-at : goal.invariant-loop-at
invariant-loop-at l =
    (looked l.registers l.rest l.initial.guard.saved l.initial.place ≡ so_far l.registers l.rest l.guard.held.now l.place l.at)
    × (all_known l.registers ≡ all_known (drop l.at l.registers))
    × (length l.registers ≤ length l.place)

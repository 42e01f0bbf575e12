use Rattle.std.proofs.Common.{◌≡◌, ℕ, min}
use Rattle.timers.specs.Counts.{wait}
use Rattle.timers.specs.Duos.{duo_wait}
use Rattle.timers.specs.Stepping.{even_clock, odd_clock, even_watch, odd_watch}
use Rattle.timers.proofs.Steps.{whole_quiet, whole_ends}
use Rattle.timers.proofs.timers.Timers.horizon.Goals as goal

pub returns : goal.returns
returns c =
    let m = c.args.modes in
    let w = c.args.watched in
    let t = c.args.self.now in
    let x : ℕ = c.wait-one.result in
    let y : ℕ = c.wait-even.result in
    let z : ℕ = c.wait-odd.result in
    let least : c.min-2.result ≡ min x (min y z) = cc in
    let one-is : x ≡ wait w.one 256 t.one.count = c.wait-one.ensures.value in
    let even_is : y ≡ duo_wait (even_clock m) (even_watch w) t.even = cc in
    let odd_is : z ≡ duo_wait (odd_clock m t.trigger.resting) (odd_watch w) t.odd = cc in
    record {
      value = cc;
      quiet = whole_quiet m w t x y z c.min-2.result least c.wait-one.ensures.quiet
          (simp (c.clock.ensures, c.even_units.ensures) at c.wait-even.ensures.quiet)
          (simp (c.clock-drive.ensures, c.odd_units.ensures) at c.wait-odd.ensures.quiet);
      ends = whole_ends m w t x y z c.min-2.result least c.wait-one.ensures.ends
          (simp (c.clock.ensures, c.even_units.ensures) at c.wait-even.ensures.ends)
          (simp (c.clock-drive.ensures, c.odd_units.ensures) at c.wait-odd.ensures.ends);
    }

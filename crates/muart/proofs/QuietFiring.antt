-- Timers whose firing changes nothing.
use Rattle.std.proofs.Common.{◌≡◌, Bool, true, false, cond, not, ◌&&◌, ◌||◌, List, get_or, set, refl, rules}
use Rattle.levels.proofs.Recording.{not_fresh, not_enabled}
use Rattle.timers.specs.declared.modes.Fired.{Fired}
use Rattle.timers.specs.Stepping.{Quiet}
use Rattle.registers.specs.declared.held.Registers.{Registers}
use Rattle.muart.specs.Firing.{modes_of, biti_of, fired_requests, fired_mask, watched}

mask_kept : (p c f3 f5 n3 n7 : Bool) (mask : List Bool) → (f3 && (get_or mask 3 false && ((c && p) || n3))) ≡ false → (f5 && (get_or mask 7 false && ((c && not p) || n7))) ≡ false → cond (c && cond p f3 f5) (set mask (cond p 3 7) false) mask ≡ mask
mask_kept true c f3 f5 n3 n7 mask e f = not_enabled (c && f3) 3 mask (search rules)
mask_kept false c f3 f5 n3 n7 mask e f = not_enabled (c && f5) 7 mask (search rules)

module _ (g : Registers) (f : Fired) (mask recorded : List Bool) (q : Quiet f (watched g mask recorded)) where
  -- what is not watched changes nothing
  pub requests_kept : fired_requests g f mask recorded ≡ recorded
  requests_kept =
      rw (
        not_fresh f.one 0 mask recorded q.one,
        not_fresh (f.two && not (biti_of g)) 1 mask recorded (search rules),
        not_fresh f.three 3 mask recorded (search rules),
        not_fresh f.four 6 mask recorded q.four,
        not_fresh f.five 7 mask recorded (search rules),
      ) refl

  pub levels_kept : fired_mask g f mask ≡ mask
  levels_kept = mask_kept (modes_of g).odd.joined (modes_of g).t5c f.three f.five _ _ mask q.three q.five

-- A receiver on a line: w k is the level of RxD at the tick k, the first tick being 1.
use Rattle.std.specs.Prelude.{ℕ, zero, suc, Bool, None, Option}
use Rattle.serial.specs.Receiving.{heard, received}
use Rattle.serial.specs.declared.receiver.Receiver.{Receiver}
use Rattle.serial.specs.declared.receiver.Event.TheVariants.{Tick}
use Rattle.serial.specs.declared.receiver.Reception.{Reception}

-- The receiver after the tick n.
abbrev pub after : (ℕ → Bool) → ℕ → Receiver → Receiver
after w zero r = r
after w (suc n) r = heard (Tick (w (suc n))) (after w n r)

-- What the tick n tells.
abbrev pub tells : (ℕ → Bool) → ℕ → Receiver → Option Reception
tells w zero r = None
tells w (suc n) r = received (Tick (w (suc n))) (after w n r)

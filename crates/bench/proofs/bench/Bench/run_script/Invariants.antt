use Rattle.std.proofs.Common.{◌≡◌, ℕ, List, Some}
use Rattle.marks.specs.Both.{BothExtended}
use Rattle.bench.specs.Benches.{state_of}
use Rattle.bench.specs.Listings.{LedTo}
use Rattle.bench.proofs.Listing.{Listed}
use Rattle.bench.proofs.bench.Bench.run_script.Given as goal

abbrev pub invariant-loop-number : goal.invariant-loop-number
invariant-loop-number g l =
    BothExtended l.fn.self.recorders l.self.recorders
    × LedTo (state_of l.fn.self) (state_of l.self)
    × ((bytes : List ℕ) → g.R.Read.remaining l.fn.script ≡ Some bytes
    → Listed bytes (state_of l.fn.self) (g.W.Write.contents l.fn.listing) l.number (g.R.Read.remaining l.script) (g.W.Write.contents l.listing) (state_of l.self))

-- The interrupt levels: which one requests, which one is ready, and what taking and closing one changes.
use Rattle.std.specs.Prelude.{◌≡◌, ℕ, Bool, true, false, cond, not, ◌&&◌, List, [], ◌∷◌, Some, None, Option, slice_index_or, slice_set}
use Rattle.levels.specs.declared.pending.Pending.{Pending}
use Rattle.levels.specs.Sets.{lowest, levels, below}

-- level 2 is never recorded: it requests while the pin is high and it is enabled
abbrev pub requesting : List Bool → List Bool → Bool → List Bool
requesting recorded mask extint = slice_set recorded 2 (extint && slice_index_or mask 2 false)

-- the lowest requesting level that, with nesting on, is below every level in service
abbrev pub ready : List Bool → List Bool → Bool → Option ℕ
ready requests service nesting = lowest (cond nesting (below requests service) requests)

-- the level that taking picks
abbrev pub due : Pending → List Bool → Bool → Bool → Option ℕ
due pending mask extint nesting = ready (requesting pending.requests mask extint) pending.service nesting

-- taking a level drops its recorded request and, with nesting on, puts it in service
abbrev pub taken : Option ℕ → Pending → Bool → Pending
taken None pending nesting = pending
taken (Some l) pending nesting = record {
  requests = slice_set pending.requests l false;
  service = cond nesting (slice_set pending.service l true) pending.service;
}

-- a request is recorded if its level is enabled
abbrev pub request : ℕ → List Bool → List Bool → List Bool
request level mask requests = cond (slice_index_or mask level false) (slice_set requests level true) requests

-- a request that is to be recorded, of an enabled level that does not request yet
abbrev pub fresh : Bool → ℕ → List Bool → List Bool → Bool
fresh on level mask requests = on && (slice_index_or mask level false && not (slice_index_or requests level false))

-- service is a stack: the level put in service stands before those that were
abbrev pub Opened : Option ℕ → List Bool → Type 0
Opened None service = Unit {0}
Opened (Some l) service = levels (slice_set service l true) ≡ l ∷ levels service

-- service is a stack: the level closed stood before those that are left
abbrev pub Closed : Option ℕ → List Bool → List Bool → Type 0
Closed None service rest = levels service ≡ []
Closed (Some l) service rest = levels service ≡ l ∷ levels rest

-- What the timers that step from 1 to 0 do to the levels.
use Rattle.std.specs.Prelude.{ℕ, Bool, false, cond, not, ◌&&◌, ◌||◌, List, slice_index_or, slice_set}
use Rattle.levels.specs.Levels.{request}
use Rattle.timers.specs.declared.modes.TimerModes.{TimerModes}
use Rattle.timers.specs.declared.modes.Fired.{Fired}
use Rattle.registers.specs.declared.held.Registers.{Registers}
use Rattle.registers.specs.Words.{bit_of}
use Rattle.muart.specs.declared.state.StandIn.{StandIn}
use Rattle.muart.specs.State.{with_mask, with_requests}

-- mode bits 7 T35, 6 T24, 5 T5C, 4 CT3, 3 CT2
abbrev pub modes_of : Registers → TimerModes
modes_of g =
    record {
      even = record { joined = bit_of 6 g.mode; counts_edges = bit_of 3 g.mode };
      odd = record { joined = bit_of 7 g.mode; counts_edges = bit_of 4 g.mode };
      t5c = bit_of 5 g.mode;
    }

-- command 1 bit 2, BITI: level 1 is a rise of P17 and not timer 2
abbrev pub biti_of : Registers → Bool
biti_of g = bit_of 2 g.command1

-- a level requests if so told
abbrev pub request_if : Bool → ℕ → List Bool → List Bool → List Bool
request_if on level mask requests = cond on (request level mask requests) requests

abbrev pub asks : Bool → ℕ → StandIn → StandIn
asks on l s = with_requests (request_if on l s.rest.mask s.sensitive.levels.requests) s

-- level 0 is timer 1; 1 timer 2, with BITI 0; 3 timer 3 or its pair; 6 timer 4 or its pair; 7 timer 5
abbrev pub fired_requests : Registers → Fired → List Bool → List Bool → List Bool
fired_requests g f mask requests =
    request_if f.five 7 mask (request_if f.four 6 mask (request_if f.three 3 mask
    (request_if (f.two && not (biti_of g)) 1 mask (request_if f.one 0 mask requests))))

-- the level of timer 5, or of its pair
abbrev pub own_level : TimerModes → ℕ
own_level m = cond m.odd.joined 3 7

-- under T5C the request of timer 5, or of its pair, disables its own level
abbrev pub disables : TimerModes → Fired → Bool
disables m f = m.t5c && cond m.odd.joined f.three f.five

abbrev pub fired_mask : Registers → Fired → List Bool → List Bool
fired_mask g f mask = cond (disables (modes_of g) f) (slice_set mask (own_level (modes_of g)) false) mask

-- what the timers that fired do: their levels request, and one may be disabled
abbrev pub recorded : Fired → StandIn → StandIn
recorded f s =
    with_mask (fired_mask s.rest.registers f s.rest.mask)
    (with_requests (fired_requests s.rest.registers f s.rest.mask s.sensitive.levels.requests) s)

-- a level whose request would be new
abbrev pub unasked : ℕ → List Bool → List Bool → Bool
unasked level mask requests = slice_index_or mask level false && not (slice_index_or requests level false)

-- a level whose request would be new, or would disable it
abbrev pub heeded : Bool → ℕ → List Bool → List Bool → Bool
heeded disabling level mask requests = slice_index_or mask level false && (disabling || not (slice_index_or requests level false))

-- the timers whose firing would change the requests or the mask
abbrev pub watched : Registers → List Bool → List Bool → Fired
watched g mask requests = record {
  one = unasked 0 mask requests;
  two = not (biti_of g) && unasked 1 mask requests;
  three = heeded ((modes_of g).t5c && (modes_of g).odd.joined) 3 mask requests;
  four = unasked 6 mask requests;
  five = heeded ((modes_of g).t5c && not (modes_of g).odd.joined) 7 mask requests;
}

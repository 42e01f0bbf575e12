-- A board as the rules see it, and one clock of it.
use Rattle.std.specs.Prelude.{ℕ, zero, suc, ◌≤◌, Bool, cond, List, [], ◌++◌}
use Rattle.line.specs.Meaning.{Meaning, shown, ticked, hearing}
use Rattle.muart.specs.declared.state.StandIn.{StandIn}
use Rattle.muart.specs.Bounds.{Sound}
use Rattle.muart.specs.Reading.{int_high}
use Rattle.muart.specs.Serial.{txd_level, rxd_set}
use Rattle.muart.specs.Clock.{clocked}
use Rattle.marks.specs.declared.wires.WireMark.{WireMark}
use Rattle.marks.specs.declared.wires.Lines.{Lines}
use Rattle.marks.specs.Marks.{differ, changes}

-- what a board is made of: the stand-in, a partner of some kind and the clock number
pub record Parts (P : Type 0) : Type 0 where
  pub unit : StandIn
  pub partner : P
  pub clock : ℕ

abbrev pub parts : {P : Type 0} → StandIn → P → ℕ → Parts P
parts u p c = record { unit = u; partner = p; clock = c }

-- the stand-in, the partner's meaning and the clock number
pub record View : Type 0 where
  pub unit : StandIn
  pub partner : Meaning
  pub clock : ℕ

abbrev pub view : {P : Type 0} → (P → Meaning) → Parts P → View
view meaning b = record { unit = b.unit; partner = meaning b.partner; clock = b.clock }

abbrev pub with_unit : StandIn → View → View
with_unit u v = record v { unit = u }

-- the levels of TxD, RxD and INT
abbrev pub lines_of : StandIn → Lines
lines_of u = record { txd = txd_level u; rxd = u.rest.serial.rxd; int = int_high u.rest u.sensitive }

-- a changed TxD is heard
abbrev pub heard_by : Bool → StandIn → Meaning → Meaning
heard_by txd u m = cond (differ txd (txd_level u)) (hearing (txd_level u) m) m

abbrev pub told_to : Bool → View → View
told_to txd v = record v { partner = heard_by txd v.unit v.partner }

-- RxD takes the partner's level
abbrev pub joined : View → View
joined v = with_unit (rxd_set (shown v.partner) v.unit) v

-- how each clock and each accepted call ends: a changed TxD is heard, and RxD takes the partner's level
unfoldable pub settled : Bool → View → View
settled txd v = joined (told_to txd v)

-- each clock counts up, runs the stand-in and then the partner
abbrev pub stirred : View → View
stirred v = record { unit = clocked v.unit; partner = ticked v.partner; clock = suc v.clock }

unfoldable pub clock_once : View → View
clock_once v = settled (txd_level v.unit) (stirred v)

-- and the lines that changed are marked
abbrev pub marks_between : View → View → List WireMark
marks_between v w = changes w.clock (lines_of v.unit) (lines_of w.unit)

-- the marks of n clocks
abbrev pub span_marks : ℕ → View → List WireMark
span_marks zero v = []
span_marks (suc n) v = marks_between v (clock_once v) ++ span_marks n (clock_once v)

-- the clock number never passes this
abbrev pub last_clock : ℕ
last_clock = 500000000000000

-- what holds of every board
pub record Bounds {P : Type 0} (b : Parts P) : Type 0 where
  pub sound : Sound b.unit
  pub within : b.clock ≤ last_clock

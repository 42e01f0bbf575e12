-- Worked examples: runs of calls from power-up, what they answer, and what they leave.
use Rattle.std.specs.Prelude.{◌≡◌, ℕ, ◌*◌, Bool, true, false, List, [], ◌∷◌, ◌++◌}
use Rattle.levels.specs.Sets.{levels}
use Rattle.line.specs.LastHeard.{last_heard}
use Rattle.registers.specs.declared.latch.Latched.{Latched}
use Rattle.muart.specs.Serial.{txd_level}
use Rattle.marks.specs.declared.wires.Line.TheVariants.{TxD, RxD}
use Rattle.marks.specs.declared.wires.WireMark.{WireMark}
use Rattle.marks.specs.declared.services.ServiceMark.TheVariants.{Taken, Closed}
use Rattle.board.specs.Perform.{Call, read, write, pulse, first_pulse, second_pulse, pin, span, done, byte, State, start}
use Rattle.board.specs.Histories.{ran, answers}
use Rattle.board.specs.ServiceStack.{in_service}

-- power-up with a plug that shows the level last heard, and room for a hundred marks in each recorder
abbrev pub plugged : State
plugged = start (last_heard true) 100 100

-- a bus cycle at an address, with the stand-in selected
abbrev pub latched_at : ℕ → Latched
latched_at address = record { address = address; selected = true }

-- a write of a word at an address
abbrev pub put : ℕ → ℕ → Call
put address word = write (latched_at address) word

-- a read at an address
abbrev pub get : ℕ → Call
get address = read (latched_at address)

-- TxD changed, and the plug made RxD follow in the same clock
abbrev pub both : Bool → ℕ → List WireMark
both level clock = record { clock = clock; line = TxD; level = level } ∷ record { clock = clock; line = RxD; level = level } ∷ []

-- 8086 family, IAE set, level 7 enabled, timer 5 at 1, its step, and the two pulses
abbrev pub two_pulses : List Call
two_pulses = put 0 0x02 ∷ put (2 * 2) 0xA0 ∷ put (2 * 5) 0x80 ∷ put (2 * 14) 1 ∷ span 320 ∷ first_pulse ∷ second_pulse ∷ []

-- timers 2 and 4 paired, level 6 enabled, the pair set to these bytes, its step, and the reads of both and of the interrupt address
abbrev pub pair_step : ℕ → ℕ → List Call
pair_step high low = put 3 0x40 ∷ put 5 0x40 ∷ put 11 low ∷ put 13 high ∷ span 320 ∷ get 11 ∷ get 13 ∷ get 6 ∷ []

-- 7 data bits, 41H sent under a command 2, and clocks into the parity bit, which begins at clock 854 and ends at 960
abbrev pub to_parity : ℕ → List Call
to_parity command2 = put 0 0x40 ∷ put 1 command2 ∷ put 7 0x41 ∷ span 900 ∷ []

-- NIE set; level 5 enabled, requested and taken; level 2 enabled, requested by EXTINT and taken; END
abbrev pub nested_end : List Call
nested_end = put 2 0x90 ∷ put 5 0x20 ∷ put 7 0x41 ∷ get 6 ∷ put 5 0x04 ∷ pin 17 true ∷ get 6 ∷ put 2 0x88 ∷ []

-- what the rules say of these runs
pub record WorkedExamples : Type 0 where
  -- 8085 family, IAE set, level 5 ready: the pulse answers 239
  pub single_pulse_answers_239 :
      answers (put 2 0xA0 ∷ put 5 0x20 ∷ put 7 0x41 ∷ pulse ∷ []) plugged
      ≡ done ∷ done ∷ done ∷ byte 239 ∷ []
  -- 8086 family, level 7 ready: the two pulses answer 71
  pub two_pulses_answer_71 :
      answers two_pulses plugged
      ≡ done ∷ done ∷ done ∷ done ∷ done ∷ done ∷ byte 71 ∷ []
  -- timer 1 at 2 reads 1 at clock 639 and 0 at clock 640
  pub second_timer_step_at_640 :
      answers (put 10 2 ∷ span 639 ∷ get 10 ∷ span 1 ∷ get 10 ∷ []) plugged
      ≡ done ∷ done ∷ byte 1 ∷ done ∷ byte 0 ∷ []
  -- an enabled timer at 0 steps to 255 and does not request
  pub timer_from_0_requests_nothing :
      answers (put 5 0x01 ∷ get 10 ∷ span 320 ∷ get 10 ∷ get 6 ∷ []) plugged
      ≡ done ∷ byte 0 ∷ done ∷ byte 255 ∷ byte 255 ∷ []
  -- an enabled pair at 0001H steps to 0000H and requests
  pub pair_from_0001_requests :
      answers (pair_step 0x00 0x01) plugged
      ≡ done ∷ done ∷ done ∷ done ∷ done ∷ byte 0x00 ∷ byte 0x00 ∷ byte 24 ∷ []
  -- an enabled pair at 0100H steps to 00FFH and does not request
  pub pair_from_0100_requests_nothing :
      answers (pair_step 0x01 0x00) plugged
      ≡ done ∷ done ∷ done ∷ done ∷ done ∷ byte 0xFF ∷ byte 0x00 ∷ byte 255 ∷ []
  -- command 2 = 34H: data bits 0, 1 and 2 begin 107, 214 and 320 clocks after the write; 55H has them 1, 0 and 1
  pub data_bits_begin_at_107_214_320 :
      (ran (put 1 0x34 ∷ put 7 0x55 ∷ span 400 ∷ []) plugged).wires.kept
      ≡ both false 0 ++ both true 107 ++ both false 214 ++ both true 320
  -- 41H in 7 bits sends the parity bit 0 when even, 1 when odd
  pub even_parity_of_41_is_0 : txd_level (ran (to_parity 0xF4) plugged).board.unit ≡ false
  pub odd_parity_of_41_is_1 : txd_level (ran (to_parity 0xB4) plugged).board.unit ≡ true
  -- and that frame is not over then: the status has TBE and not TRE
  pub odd_frame_under_way : answers (get 15 ∷ []) (ran (to_parity 0xB4) plugged) ≡ byte 32 ∷ []
  -- with levels 5 and 2 in service END closes 2, and 5 is left
  pub nested_takes_answer_20_and_8 :
      answers nested_end plugged
      ≡ done ∷ done ∷ done ∷ byte 20 ∷ done ∷ done ∷ byte 8 ∷ done ∷ []
  pub end_closes_2 : (ran nested_end plugged).services.kept ≡ Taken 0 5 ∷ Taken 0 2 ∷ Closed 0 2 ∷ []
  pub end_leaves_5 : levels (in_service (ran nested_end plugged)) ≡ 5 ∷ []

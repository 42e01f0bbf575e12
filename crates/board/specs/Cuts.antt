-- How the clock is cut does not show: what is left of a history, and when two boards are alike.
use Rattle.std.specs.Prelude.{◌≡◌, ℕ, zero, suc, ◌+◌, Bool, true, false, cond, List, [], ◌∷◌, ◌++◌, is_ok}
use Rattle.timers.specs.Access.{counts_of}
use Rattle.line.specs.Meaning.{Meaning}
use Rattle.board.specs.Views.{View, lines_of}
use Rattle.board.specs.Perform.{Call, read, write, pulse, first_pulse, second_pulse, pin, span, look, snapshot, reset, Answer, done, byte, counts, refused, looked, answered, State, after, start}
use Rattle.board.specs.Histories.{ran, answers}

-- what is left of a history: a call, or clocks
pub data Item : Type 0 where
  did : Call → Item
  elapsed : ℕ → Item

-- whether an answer is no refusal
abbrev pub accepted : Answer → Bool
accepted done = true
accepted (byte b) = true
accepted (counts ns) = true
accepted (refused e) = false
accepted (looked r place) = is_ok r

-- of a span its clocks are left, and of a span of 0 nothing
abbrev pub clocks_left : ℕ → List Item
clocks_left zero = []
clocks_left (suc n) = elapsed (suc n) ∷ []

-- of an accepted look or snapshot nothing is left, and any other accepted call stays
abbrev pub if_accepted : Call → List Item
if_accepted (read l) = did (read l) ∷ []
if_accepted (write l w) = did (write l w) ∷ []
if_accepted pulse = did pulse ∷ []
if_accepted first_pulse = did first_pulse ∷ []
if_accepted second_pulse = did second_pulse ∷ []
if_accepted (pin code b) = did (pin code b) ∷ []
if_accepted (span n) = clocks_left n
if_accepted (look ns place) = []
if_accepted snapshot = []
if_accepted reset = did reset ∷ []

-- of a refused call nothing is left
abbrev pub left_of : Call → View → List Item
left_of c v = cond (accepted (answered c v)) (if_accepted c) []

-- a history with refused calls, looks, snapshots and spans of 0 struck out
abbrev pub struck : List Call → State → List Item
struck [] s = []
struck (c ∷ cs) s = left_of c s.board ++ struck cs (after c s)

-- clocks are added to the clocks that follow at once
abbrev pub clocks_before : ℕ → List Item → List Item
clocks_before n [] = elapsed n ∷ []
clocks_before n (did c ∷ items) = elapsed n ∷ did c ∷ items
clocks_before n (elapsed m ∷ items) = elapsed (n + m) ∷ items

-- neighbouring clocks are added
abbrev pub added : List Item → List Item
added [] = []
added (did c ∷ items) = did c ∷ added items
added (elapsed n ∷ items) = clocks_before n (added items)

-- what is left of a history
abbrev pub left : List Call → State → List Item
left cs s = added (struck cs s)

-- the answer of a call that stays; spans and struck calls are passed over
abbrev pub kept_answer : List Item → Answer → List Answer
kept_answer [] a = []
kept_answer (did c ∷ items) a = a ∷ []
kept_answer (elapsed n ∷ items) a = []

-- the answers of the calls left, spans aside
abbrev pub kept_answers : List Call → State → List Answer
kept_answers [] s = []
kept_answers (c ∷ cs) s = kept_answer (left_of c s.board) (answered c s.board) ++ kept_answers cs (after c s)

-- boards that are alike: in what they hold, in their recorders, in their partners, and in all that they will answer
pub record Alike (s t : State) : Type 0 where
  pub registers : s.board.unit.rest.registers ≡ t.board.unit.rest.registers
  pub requests : s.board.unit.sensitive.levels.requests ≡ t.board.unit.sensitive.levels.requests
  pub service : s.board.unit.sensitive.levels.service ≡ t.board.unit.sensitive.levels.service
  pub flags : s.board.unit.sensitive.flags ≡ t.board.unit.sensitive.flags
  pub counts : counts_of s.board.unit.rest.timers ≡ counts_of t.board.unit.rest.timers
  pub lines : lines_of s.board.unit ≡ lines_of t.board.unit
  pub clock : s.board.clock ≡ t.board.clock
  pub partner : s.board.partner ≡ t.board.partner
  pub wires : s.wires ≡ t.wires
  pub services : s.services ≡ t.services
  pub same : s ≡ t
  pub onward : (cs : List Call) → answers cs s ≡ answers cs t

-- two boards with equally long, empty recorders and partners that mean the same: if what is left of their histories is
-- equal, the boards are alike, and the calls left, spans aside, were answered equally
abbrev pub CutDoesNotShow : Type 0
CutDoesNotShow =
    (m n : Meaning) → m ≡ n → (wires services : ℕ) (g h : List Call)
    → left g (start m wires services) ≡ left h (start n wires services)
    → Alike (ran g (start m wires services)) (ran h (start n wires services))
    × (kept_answers g (start m wires services) ≡ kept_answers h (start n wires services))

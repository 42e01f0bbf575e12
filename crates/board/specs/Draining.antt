-- Standing requests drain: eight END words, and then reads of the interrupt address, each followed by an END word.
use Rattle.std.specs.Prelude.{◌≡◌, ℕ, zero, suc, ◌+◌, ◌*◌, ◌<◌, ◌≤◌, Bool, true, false, List, [], ◌∷◌, ◌++◌, map, length, get_or, drop, replicate, Ok, slice_index_or}
use Rattle.std.specs.List.{AllByRecursion}
use Rattle.levels.specs.Sets.{levels}
use Rattle.levels.specs.Levels.{requesting}
use Rattle.line.specs.Meaning.{Meaning}
use Rattle.registers.specs.declared.latch.Latched.{Latched}
use Rattle.registers.specs.declared.register.Register.TheVariants.{Command3, InterruptAddress}
use Rattle.board.specs.Perform.{Call, read, write, Answer, done, byte, State, start, strobe_of}
use Rattle.board.specs.Histories.{ran, answers}

-- an END word is 88H written to command 3
abbrev pub end_word : Latched → Call
end_word l = write l 136

-- a read of the interrupt address
abbrev pub address_read : Latched → Call
address_read l = read l

-- a lawful address for an END word strobes command 3 in the family in force
abbrev pub EndsAt : State → Latched → Type 0
EndsAt s l = strobe_of l s.board ≡ Ok Command3

-- a lawful address for a read, and one for the END word that follows it
abbrev pub ReadsAt : State → Latched × Latched → Type 0
ReadsAt s p = (strobe_of p.0 s.board ≡ Ok InterruptAddress) × EndsAt s p.1

-- each read is followed by an END word
abbrev pub address_reads : List (Latched × Latched) → List Call
address_reads [] = []
address_reads (p ∷ pairs) = address_read p.0 ∷ end_word p.1 ∷ address_reads pairs

-- the END words first, then the reads, and no other call
abbrev pub draining : List Latched → List (Latched × Latched) → List Call
draining ends pairs = map end_word ends ++ address_reads pairs

-- which levels request
abbrev pub requesting_in : State → List Bool
requesting_in s = requesting s.board.unit.sensitive.levels.requests s.board.unit.rest.mask s.board.unit.rest.pins.extint

-- the levels that request, lowest first
abbrev pub requests_now : State → List ℕ
requests_now s = levels (requesting_in s)

-- k reads answer the levels in their order, one a read, and 255 from there on; each END word is accepted
abbrev pub expected : ℕ → List ℕ → List Answer
expected zero ls = []
expected (suc k) [] = byte 255 ∷ done ∷ expected k []
expected (suc k) (l ∷ ls) = byte (4 * l) ∷ done ∷ expected k ls

-- level n is taken by read n + 1 at the latest; read k + 1 stands behind the eight END words, and k reads with theirs
pub record TakenInTime (n : ℕ) (given : List Answer) : Type 0 where
  pub k : ℕ
  pub soon : k ≤ n
  pub answer : get_or given (8 + 2 * k) done ≡ byte (4 * n)

-- all calls are accepted, the requesting levels are taken lowest first, each of them in time, and dropped and closed
pub record Drains (s : State) (ends : List Latched) (pairs : List (Latched × Latched)) : Type 0 where
  pub order : answers (draining ends pairs) s ≡ replicate 8 done ++ expected (length pairs) (requests_now s)
  pub in_time : (n : ℕ) → slice_index_or (requesting_in s) n false ≡ true → n < length pairs → TakenInTime n (answers (draining ends pairs) s)
  pub left : requests_now (ran (draining ends pairs) s) ≡ drop (length pairs) (requests_now s)
  pub closed : levels (ran (draining ends pairs) s).board.unit.sensitive.levels.service ≡ []

-- from any state that a history reaches, with nesting on and EXTINT low, standing requests drain
abbrev pub RequestsDrain : Type 0
RequestsDrain =
    (m : Meaning) (wires services : ℕ) (h : List Call) (ends : List Latched) (pairs : List (Latched × Latched)) →
    let s = ran h (start m wires services) in
    s.board.unit.rest.registers.control.nie ≡ true → s.board.unit.rest.pins.extint ≡ false
    → length ends ≡ 8 → AllByRecursion (EndsAt s) ends → AllByRecursion (ReadsAt s) pairs
    → Drains s ends pairs

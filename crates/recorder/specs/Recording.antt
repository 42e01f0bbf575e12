use Rattle.std.specs.Prelude.{◌≡◌, ℕ, ◌+◌, ◌-◌, ◌^◌, ◌≤◌, min, cond, List, [], ◌∷◌, ◌++◌, length, take, drop, nat_lt}
use Rattle.std.specs.Borrow.{MutBor}
use Rattle.recorder.specs.declared.recorder.Recorder.{Recorder}

-- What a recorder has recorded: how many slots its room has, the marks kept, and how many were made.
pub record Recording (T : Type 0) : Type 0 where
  pub room : ℕ
  pub kept : List T
  pub count : ℕ

-- The room that the host lent.
abbrev pub lent : {T : Type 0} → Recorder T → MutBor (List T)
lent r = r.room

-- What the slots of the room hold.
abbrev pub slots : {T : Type 0} → Recorder T → List T
slots r = r.room.now

-- The slots past the kept marks.
abbrev pub unused : {T : Type 0} → Recorder T → List T
unused r = drop r.kept r.room.now

-- A recorder's marks are the first of its slots.
abbrev pub recording : {T : Type 0} → Recorder T → Recording T
recording r = record { room = length r.room.now; kept = take r.kept r.room.now; count = r.made }

-- Nothing is recorded yet in a room of n slots.
abbrev pub empty : {T : Type 0} → ℕ → Recording T
empty n = record { room = n; kept = []; count = 0 }

-- A mark is kept if there is room for it, and counted in any case; the count stops at 2^64 - 1.
abbrev pub marked : {T : Type 0} → T → Recording T → Recording T
marked m rec = record { room = rec.room; kept = cond (nat_lt (length rec.kept) rec.room) (rec.kept ++ m ∷ []) rec.kept; count = min (rec.count + 1) (2 ^ 64 - 1) }

-- Marks made one after another.
abbrev pub all_marked : {T : Type 0} → List T → Recording T → Recording T
all_marked [] rec = rec
all_marked (m ∷ ms) rec = all_marked ms (marked m rec)

-- How marking leaves a recorder: in the same room, with no mark fewer, and with the slots past the kept marks untouched.
pub record Extended {T : Type 0} (before after : Recorder T) : Type 0 where
  pub place : (lent after).ghost_name ≡ (lent before).ghost_name
  pub more : before.kept ≤ after.kept
  pub untouched : drop after.kept (slots after) ≡ drop after.kept (slots before)

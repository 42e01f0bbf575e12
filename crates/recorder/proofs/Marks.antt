use Rattle.std.proofs.Common.{◌≡◌, ℕ, ◌+◌, ◌-◌, ◌^◌, ◌≤◌, min, Bool, true, false, cond, ltb, List, [], ◌∷◌, ◌++◌, length, take, sym, refl, ap, ◌∙◌, append_assoc, append-nil, arith, length-append, take_all}
use lib.Seq.{take-append-le}
use Rattle.std.proofs.lemmas.Bool.Decides.{nat_tests}
use Rattle.recorder.specs.Recording.{Recording, empty, marked, all_marked}

module _ {T : Type 0} where
  -- Marks made after others are marked into what those left.
  pub all_marked_append : (ms ns : List T) (rec : Recording T) → all_marked (ms ++ ns) rec ≡ all_marked ns (all_marked ms rec)
  all_marked_append [] ns rec = refl
  all_marked_append (m ∷ ms) ns rec = all_marked_append ms ns (marked m rec)

  -- Marking leaves the number of slots.
  pub room_same : (ms : List T) (rec : Recording T) → (all_marked ms rec).room ≡ rec.room
  room_same [] rec = refl
  room_same (m ∷ ms) rec = room_same ms (marked m rec)

  -- The kept marks fit their room.
  abbrev pub Within : Recording T → Type 0
  Within rec = length rec.kept ≤ rec.room

  within_one : (kept : List T) (room : ℕ) (m : T) (b : Bool) → ltb (length kept) room ≡ b → length kept ≤ room → length (cond b (kept ++ m ∷ []) kept) ≤ room
  within_one kept room m true e h = simp length-append (grind (arith, nat_tests))
  within_one kept room m false e h = h

  pub within_marked : (m : T) (rec : Recording T) → Within rec → Within (marked m rec)
  within_marked m rec h = within_one rec.kept rec.room m (ltb (length rec.kept) rec.room) refl h

  pub within_all : (ms : List T) (rec : Recording T) → Within rec → Within (all_marked ms rec)
  within_all [] rec h = h
  within_all (m ∷ ms) rec h = within_all ms (marked m rec) (within_marked m rec h)

  first_one : (kept ms : List T) (room : ℕ) (m : T) (b : Bool) → ltb (length kept) room ≡ b → length kept ≤ room → take room (cond b (kept ++ m ∷ []) kept ++ ms) ≡ take room (kept ++ m ∷ ms)
  first_one kept ms room m true e h = ap (take room) (append_assoc kept (m ∷ []) ms)
  first_one kept ms room m false e h =
      let full : room ≤ length kept = grind (arith, nat_tests) in
      simp take-append-le

  -- The kept marks are the first that fit.
  pub kept_first : (ms : List T) (rec : Recording T) → Within rec → (all_marked ms rec).kept ≡ take rec.room (rec.kept ++ ms)
  kept_first [] rec h = sym (simp append-nil (take_all rec.room rec.kept h))
  kept_first (m ∷ ms) rec h =
      kept_first ms (marked m rec) (within_marked m rec h)
      ∙ first_one rec.kept ms rec.room m (ltb (length rec.kept) rec.room) refl h

  -- From an empty room of n slots, the first n marks are kept.
  pub kept_take : (ms : List T) (n : ℕ) → (all_marked ms (empty n)).kept ≡ take n ms
  kept_take ms n = kept_first ms (empty n) (omega arith)

  -- Marks that all fit are all kept: none is turned away.
  pub kept_all : (ms : List T) (n : ℕ) → length ms ≤ n → (all_marked ms (empty n)).kept ≡ ms
  kept_all ms n h = kept_take ms n ∙ take_all n ms h

  counts_more : (ms : List T) (rec : Recording T) (n : ℕ) → rec.count ≡ min n (2 ^ 64 - 1) → (all_marked ms rec).count ≡ min (n + length ms) (2 ^ 64 - 1)
  counts_more [] rec n e = e ∙ ap (λ k. min k (2 ^ 64 - 1)) (omega arith)
  counts_more (m ∷ ms) rec n e = counts_more ms (marked m rec) (n + 1) (grind arith) ∙ ap (λ k. min k (2 ^ 64 - 1)) (omega arith)

  -- All marks are counted, kept or not, up to 2^64 - 1.
  pub counts_all : (ms : List T) (n : ℕ) → (all_marked ms (empty n)).count ≡ min (length ms) (2 ^ 64 - 1)
  counts_all ms n = counts_more ms (empty n) 0 refl ∙ ap (λ k. min k (2 ^ 64 - 1)) (omega arith)

use Rattle.std.proofs.Common.{◌≡◌, ℕ, zero, suc, ◌+◌, ◌-◌, ◌<◌, ◌≤◌, max, Bool, true, false, cond, not, leb, List, [], ◌∷◌, length, Option, Some, None, sym, ap, ◌∙◌, arith, refl}
use native.Mathlib.Nat.{sub-zero}
use Rattle.std.specs.declared.vec.IntoIter.{IntoIter}
use Rattle.std.specs.Vec.Iter.{into_iter_items, into_iter_len, into_iter_steps}
use Rattle.std.proofs.lemmas.List.{nil_from_length}
use Rattle.std.proofs.lemmas.Bool.Decides.{nat_tests}
use Rattle.line.specs.Meaning.{Steady, shown, ticked, elapsed}
use Rattle.line.specs.Plays.{plays, under_way, first_wait, quiet_for}
use Rattle.line.proofs.Elapsing.{elapsed_add}

-- A line whose list is done keeps its level.
pub plays_done : (n : ℕ) (l : Bool) → elapsed n (plays l []) ≡ plays l []
plays_done zero l = refl
plays_done (suc n) l = plays_done n l

-- One clock shortens a wait, or ends it.
module _ (l : Bool) (w : ℕ) (ws : List ℕ) where
  ticked_on : leb w 1 ≡ false → ticked (plays l (w ∷ ws)) ≡ plays l ((w - 1) ∷ ws)
  ticked_on e = λ i more. cond (e i) (plays (not l) ws more) (plays l ((w - 1) ∷ ws) more)

  ticked_over : leb w 1 ≡ true → ticked (plays l (w ∷ ws)) ≡ plays (not l) ws
  ticked_over e = λ i more. cond (e i) (plays (not l) ws more) (plays l ((w - 1) ∷ ws) more)

-- Within a wait, clocks only shorten it.
pub plays_within : (k : ℕ) (l : Bool) (w : ℕ) (ws : List ℕ) → k < max w 1 → elapsed k (plays l (w ∷ ws)) ≡ plays l ((w - k) ∷ ws)
plays_within zero l w ws h = rw sub-zero
plays_within (suc k) l w ws h =
    ap (elapsed k) (ticked_on l w ws (grind (arith, nat_tests)))
    ∙ plays_within k l (w - 1) ws (grind arith)
    ∙ ap (λ n. plays l (n ∷ ws)) (omega arith)

-- After a wait the level has turned over, and the next wait begins.
pub plays_over : (n : ℕ) (l : Bool) (w : ℕ) (ws : List ℕ) → elapsed (max w 1 + n) (plays l (w ∷ ws)) ≡ elapsed n (plays (not l) ws)
plays_over n l w ws =
    let before : (max w 1 - 1) + suc n ≡ max w 1 + n = grind arith in
    ap (λ k. elapsed k (plays l (w ∷ ws))) (sym before)
    ∙ elapsed_add (max w 1 - 1) (suc n) (plays l (w ∷ ws))
    ∙ ap (elapsed (suc n)) (plays_within (max w 1 - 1) l w ws (grind arith))
    ∙ ap (elapsed n) (ticked_over l (w - (max w 1 - 1)) ws (grind (arith, nat_tests)))

-- How long a line says that it is quiet, it is.
pub quiet_steady : (l : Bool) (ws : List ℕ) → Steady (quiet_for (first_wait ws)) (plays l ws)
quiet_steady l [] = record { some = omega arith; most = omega arith; same = λ k h. ap shown (plays_done k l) }
quiet_steady l (w ∷ ws) =
    record { some = grind arith; most = grind arith; same = λ k h. ap shown (plays_within k l w ws (grind arith)) }

-- Clocks that end a wait leave the rest for what comes after it.
pub plays_past : (n : ℕ) (l : Bool) (w : ℕ) (ws : List ℕ) → max w 1 ≤ n → elapsed n (plays l (w ∷ ws)) ≡ elapsed (n - max w 1) (plays (not l) ws)
plays_past n l w ws h =
    let all : n ≡ max w 1 + (n - max w 1) = omega arith in
    ap (λ k. elapsed k (plays l (w ∷ ws))) all ∙ plays_over (n - max w 1) l w ws

-- What clocks make of the waits to come, by whether one is under way.
module _ (n : ℕ) (l : Bool) (now : Option ℕ) (later : List ℕ) where
  pub tape_ends : now ≡ None → elapsed n (plays l (under_way now later)) ≡ plays l (under_way now later)
  tape_ends e = rw e (plays_done n l)

  module _ (left wait : ℕ) (is : now ≡ Some left) (long : wait ≡ max left 1) where
    pub tape_stays : n < wait → elapsed n (plays l (under_way now later)) ≡ plays l (under_way (Some (left - n)) later)
    tape_stays h = rw is (plays_within n l left later (omega arith))

    pub tape_turns : (next : List ℕ) → later ≡ next → wait ≤ n → elapsed n (plays l (under_way now later)) ≡ elapsed (n - wait) (plays (not l) next)
    tape_turns next e h = rw (is, ← e, long) (plays_past n l left later (omega arith))

-- What an iterator gives next is under way, and what it has left then comes after it.
pub next_under_way : {Z : Type 0} (given : Option ℕ) (old new : IntoIter ℕ Z) → into_iter_len old ≡ length (into_iter_items old) → into_iter_steps old given new → into_iter_items old ≡ under_way given (into_iter_items new)
next_under_way None old new long steps = nil_from_length (into_iter_items old) (sym long ∙ steps.0)
next_under_way (Some left) old new long steps = steps.0

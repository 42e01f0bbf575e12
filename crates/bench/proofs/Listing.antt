-- A script that is run line by line: what has been listed, and what is still to come.
use Rattle.std.proofs.Common.{◌≡◌, ℕ, suc, ◌<◌, ◌+◌, true, ltb, List, [], ◌∷◌, ◌++◌, Some, None, Option, sym, refl, ap, ◌∙◌, subst, append-nil, append_assoc, arith}
use Rattle.std.proofs.lemmas.Bool.Decides.{nat_tests}
use Rattle.std.proofs.KnownBytes.{Appends-trans}
use Rattle.std.specs.Io.KnownBytes.{Appends}
use Rattle.script.specs.Inputs.{first_of, after_first, first_kept, lines_of}
use Rattle.script.proofs.Cutting.{none_kept, some_kept}
use Rattle.board.specs.Perform.{Call, State}
use Rattle.board.specs.Histories.{ran}
use Rattle.board.proofs.Choices.{ran_append}
use Rattle.bench.specs.Listings.{LedTo, printed, listing_from, listing_of}
use Rattle.bench.specs.Scripts.{last_line, line_calls, line_prints, script_calls, script_leaves}
use Rattle.bench.proofs.ScriptHistory.{script_is_a_history}
use Rattle.bench.proofs.Shortened.{start_runs}

-- of a script of these bytes the lines below n are run and listed
pub record Listed (bytes : List ℕ) (first : State) (before : Option (List ℕ)) (n : ℕ) (remaining now : Option (List ℕ)) (s : State) : Type 0 where
  pub left : List ℕ
  pub known : remaining ≡ Some left
  pub written : List ℕ
  pub appended : Appends before now written
  pub listing : written ++ listing_from n (lines_of left) s ≡ listing_of bytes first
  pub leaves : script_leaves n (lines_of left) s ≡ script_leaves 1 (lines_of bytes) first

-- a line's calls after others
pub led_on : (s t u : State) (n : ℕ) (line : List ℕ) → LedTo s t → u ≡ ran (line_calls n line t) t → LedTo s u
led_on s t u n line led e =
    let h : List Call = line_calls n line t in
    (led.0 ++ h, e ∙ ap (ran h) led.1 ∙ sym (ran_append led.0 h s))

-- past the last line nothing is run
past : (n : ℕ) (lines : List (List ℕ)) (s : State) → last_line < n → (listing_from n lines s ≡ []) × (script_leaves n lines s ≡ s)
past n [] s h = (refl, refl)
past n (line ∷ lines) s h =
    let b : ltb last_line n ≡ true = grind (arith, nat_tests) in
    rw b (past (suc n) lines s (omega (arith, h)))

module _ (bytes : List ℕ) (first : State) (before remaining now : Option (List ℕ)) (n : ℕ) (s : State) (g : Listed bytes first before n remaining now s) where
  -- what is promised once nothing is to come
  finished : listing_from n (lines_of g.left) s ≡ [] → script_leaves n (lines_of g.left) s ≡ s
      → Appends before now (listing_of bytes first) × (s ≡ ran (script_calls 1 (lines_of bytes) first) first)
  finished nothing still =
      let all = sym (append-nil g.written) ∙ ap (λ x. g.written ++ x) (sym nothing) ∙ g.listing in
      (subst (Appends before now) all g.appended, sym still ∙ g.leaves ∙ script_is_a_history 1 (lines_of bytes) first)

  -- at the end of the script
  pub at_end : (kept : ℕ) → None ≡ first_kept kept g.left → Appends before now (listing_of bytes first) × (s ≡ ran (script_calls 1 (lines_of bytes) first) first)
  at_end kept e =
      let none = none_kept kept g.left e in
      finished (ap (λ x. listing_from n x s) none) (ap (λ x. script_leaves n x s) none)

  -- after the last line that can be numbered
  pub past_last : last_line < n → Appends before now (listing_of bytes first) × (s ≡ ran (script_calls 1 (lines_of bytes) first) first)
  past_last h = let p = past n (lines_of g.left) s h in finished p.0 p.1

  -- a line more
  pub one_more : (line : List ℕ) (remaining' now' prints : Option (List ℕ)) → Some line ≡ first_kept 81 g.left → remaining' ≡ Some (after_first g.left)
      → prints ≡ line_prints n line s → Appends now now' (printed prints) → Listed bytes first before (n + 1) remaining' now' (ran (line_calls n line s) s)
  one_more line remaining' now' out e r o a =
      let kept = some_kept 81 g.left line e in
      let whole : List ℕ = first_of g.left in
      let rest : List (List ℕ) = lines_of (after_first g.left) in
      let runs = start_runs n whole s in
      let calls = ap (λ x. line_calls n x s) kept.0 ∙ runs.calls in
      let prints = ap (λ x. line_prints n x s) kept.0 ∙ runs.prints in
      let next : suc n ≡ n + 1 = omega arith in
      subst (λ k. Listed bytes first before k remaining' now' (ran (line_calls n line s) s)) next (record {
        left = after_first g.left;
        known = r;
        written = g.written ++ printed (line_prints n line s);
        appended = Appends-trans before now now' g.written (printed (line_prints n line s)) g.appended (subst (λ x. Appends now now' (printed x)) o a);
        listing =
            append_assoc g.written (printed (line_prints n line s)) (listing_from (suc n) rest (ran (line_calls n line s) s))
            ∙ (λ i. g.written ++ (printed (prints i) ++ listing_from (suc n) rest (ran (calls i) s)))
            ∙ ap (λ x. g.written ++ listing_from n x s) (sym kept.1) ∙ g.listing;
        leaves = ap (λ x. script_leaves (suc n) rest (ran x s)) calls ∙ ap (λ x. script_leaves n x s) (sym kept.1) ∙ g.leaves;
      })

-- An array that a closure gives place by place.
use Rattle.std.proofs.Common.{◌≡◌, ℕ, zero, suc, ◌+◌, ◌<◌, ◌≤◌, List, map, get_or, refl, subst, ◌∙◌, arith, inl, inr}
use Rattle.std.specs.Array.{IsFromFnResult, IsFromFnResultFrom}
use Rattle.std.specs.Fn.{Called}
use Rattle.std.specs.List.{range_with_len}
use Rattle.std.proofs.lemmas.Bool.{cases_lt}
use Rattle.std.proofs.lemmas.List.FromFn.{fill_by_all}
use denote.Param.Members.{Mut}

module _ {F B : Type 0} (g : Mut F (ℕ × Unit {0}) B) (h : ℕ → B) (f : F)
    (gives : (i : ℕ) (y : B) (q : F) → Called g f (i, tt) y q → (q ≡ f) × (y ≡ h i)) where
  given : (ys : List B) (i n k : ℕ) (d : B) (p : F) → p ≡ f → IsFromFnResultFrom g p ys i n → i ≤ k → k < i + n → get_or ys k d ≡ h k
  given ys i zero k d p e r l m = absurd (omega arith)
  given ys i (suc n) k d p e r l m =
      let called = gives i r.1 r.0 (subst (λ s. Called g s (i, tt) r.1 r.0) e r.3) in
      elim (cases_lt i k) [
        | inl below ↦ given ys (i + 1) n k d r.0 called.0 r.4 (omega arith) (omega arith)
        | inr reached ↦
            let same : i ≡ k = omega arith in
            subst (λ j. get_or ys j d ≡ h j) same (r.2.1 d ∙ called.1)
      ]

  -- the array of what the closure gives at each number
  pub made : (ys : List B) (n : ℕ) (d : B) → IsFromFnResult g f ys n → ys ≡ map h (range_with_len 0 n)
  made ys n d r = fill_by_all h ys n d r.long (λ k l. given ys 0 n k d f refl r.each (omega arith) (omega arith))

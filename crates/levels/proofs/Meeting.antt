-- Two sets that an array meets, given place by place by a closure.
use Rattle.std.proofs.Common.{◌≡◌, ℕ, zero, suc, ◌<◌, Bool, false, List, [], ◌∷◌, map, length, get_or, ap, refl, sym, ◌∙◌, le_of_suc-le-suc, not-suc-le-zero, arith}
use Rattle.std.specs.Array.{IsFromFnResult}
use Rattle.std.specs.Fn.{Called}
use Rattle.std.specs.List.{range_with_len}
use Rattle.std.proofs.lemmas.List.FromFn.{fill_by_all}
use denote.Param.Members.{Mut}
use Rattle.bits.proofs.Made.{made}
use Rattle.levels.specs.Sets.{paired}

module _ (f : Bool → Bool → Bool) where
  get_or-paired : (s w : List Bool) (k : ℕ) → length s ≡ length w → k < length s → get_or (paired f s w) k false ≡ f (get_or s k false) (get_or w k false)
  get_or-paired [] w k e l = absurd (not-suc-le-zero l)
  get_or-paired (a ∷ s) [] k e l = absurd (omega arith)
  get_or-paired (a ∷ s) (b ∷ w) zero e l = refl
  get_or-paired (a ∷ s) (b ∷ w) (suc k) e l = get_or-paired s w k (omega arith) (le_of_suc-le-suc l)

  length-paired : (s w : List Bool) → length (paired f s w) ≡ length s
  length-paired [] w = refl
  length-paired (a ∷ s) [] = refl
  length-paired (a ∷ s) (b ∷ w) = ap suc (length-paired s w)

  -- two sets met place by place
  met : (s w : List Bool) (n : ℕ) → length s ≡ n → length w ≡ n → paired f s w ≡ map (λ k. f (get_or s k false) (get_or w k false)) (range_with_len 0 n)
  met s w n e m = fill_by_all (λ k. f (get_or s k false) (get_or w k false)) (paired f s w) n false (length-paired s w ∙ e)
      (λ k l. get_or-paired s w k (omega arith) (omega arith))

  -- the array of what a closure gives that meets two sets
  pub meets : {F : Type 0} (g : Mut F (ℕ × Unit {0}) Bool) (c : F) (s w ys : List Bool) (n : ℕ)
      → ((i : ℕ) (y : Bool) (q : F) → Called g c (i, tt) y q → (q ≡ c) × (y ≡ f (get_or s i false) (get_or w i false)))
      → IsFromFnResult g c ys n → length s ≡ n → length w ≡ n → ys ≡ paired f s w
  meets g c s w ys n gives r e m = made g (λ k. f (get_or s k false) (get_or w k false)) c gives ys n false r ∙ sym (met s w n e m)

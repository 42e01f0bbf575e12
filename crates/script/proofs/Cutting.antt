-- An input begins with its first line.
use Rattle.std.proofs.Common.{◌≡◌, ℕ, Bool, true, false, cond, eqb, List, [], ◌∷◌, take, Some, None, sym, refl, ap}
use Rattle.std.proofs.lemmas.Option.{none-some, same_Some}
use Rattle.script.specs.Inputs.{first_of, after_first, first_kept, onto_first, lines_of}

alone : (ends : Bool) (b : ℕ) → cond ends ([] ∷ []) ((b ∷ []) ∷ []) ≡ cond ends [] (b ∷ []) ∷ lines_of (cond ends [] [])
alone true b = refl
alone false b = refl

onto : (ends : Bool) (b : ℕ) (bytes : List ℕ) → lines_of bytes ≡ first_of bytes ∷ lines_of (after_first bytes)
    → cond ends ([] ∷ lines_of bytes) (onto_first b (lines_of bytes)) ≡ cond ends [] (b ∷ first_of bytes) ∷ lines_of (cond ends bytes (after_first bytes))
onto true b bytes e = refl
onto false b bytes e = ap (onto_first b) e

first_line : (b : ℕ) (bytes : List ℕ) → lines_of (b ∷ bytes) ≡ first_of (b ∷ bytes) ∷ lines_of (after_first (b ∷ bytes))
first_line b [] = alone (eqb b 10) b
first_line b (c ∷ bytes) = onto (eqb b 10) b (c ∷ bytes) (first_line c bytes)

-- where no line is kept, there is none
pub none_kept : (kept : ℕ) (bytes : List ℕ) → None ≡ first_kept kept bytes → lines_of bytes ≡ []
none_kept kept [] e = refl
none_kept kept (b ∷ bytes) e = absurd (none-some _ e)

-- where one is, it is kept of the first
pub some_kept : (kept : ℕ) (bytes line : List ℕ) → Some line ≡ first_kept kept bytes
    → (line ≡ take kept (first_of bytes)) × (lines_of bytes ≡ first_of bytes ∷ lines_of (after_first bytes))
some_kept kept [] line e = absurd (none-some _ (sym e))
some_kept kept (b ∷ bytes) line e = (same_Some _ _ e, first_line b bytes)

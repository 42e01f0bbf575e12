-- The lowest place of a set as a position, the lowest below another set, and that the set places stand within the set.
use Rattle.std.proofs.Common.{◌≡◌, ℕ, suc, ◌<◌, Bool, true, false, cond, ◌||◌, List, [], ◌∷◌, map, length, slice_index_or, IfSome, Some, None, Option, refl, ap, ◌∙◌, nat_le, arith}
use Rattle.std.specs.Option.{option_map}
use Rattle.std.specs.List.{AllByRecursion, position, zip}
use Rattle.std.proofs.lemmas.Bool.Decides.{nat_tests}
use Rattle.std.proofs.ByRecursion.{All-map, All-weaker}
use Rattle.levels.specs.Sets.{lowest, levels, below, union}

position_suc : (s : List Bool) → position (λ b. b) (false ∷ s) ≡ option_map suc (position (λ b. b) s)
position_suc s = grind (arith, nat_tests)

-- the lowest place is the position of the first that is set
pub lowest_position : (s : List Bool) → position (λ b. b) s ≡ lowest s
lowest_position [] = refl
lowest_position (true ∷ s) = grind (arith, nat_tests)
lowest_position (false ∷ s) = position_suc s ∙ ap (option_map suc) (lowest_position s)

-- the lowest of one set, where the other has none that is as low
abbrev pub lower : Option ℕ → Option ℕ → Option ℕ
lower None served = None
lower (Some l) None = Some l
lower (Some l) (Some s) = cond (nat_le s l) None (Some l)

lower_suc : (o served : Option ℕ) → option_map suc (lower o served) ≡ lower (option_map suc o) (option_map suc served)
lower_suc None served = refl
lower_suc (Some l) None = refl
lower_suc (Some l) (Some s) = grind (arith, nat_tests)

lower_none : (o : Option ℕ) → None ≡ lower (option_map suc o) (Some 0)
lower_none None = refl
lower_none (Some l) = grind (arith, nat_tests)

lower_first : (served : Option ℕ) → Some 0 ≡ lower (Some 0) (option_map suc served)
lower_first None = refl
lower_first (Some s) = grind (arith, nat_tests)

-- the search below the levels in service compares the lowest of both sets
pub lowest_below : (rs ss : List Bool) → length rs ≡ length ss → lowest (below rs ss) ≡ lower (lowest rs) (lowest ss)
lowest_below [] ss h = refl
lowest_below (r ∷ rs) [] h = absurd (omega arith)
lowest_below (true ∷ rs) (true ∷ ss) h = refl
lowest_below (false ∷ rs) (true ∷ ss) h = lower_none (lowest rs)
lowest_below (true ∷ rs) (false ∷ ss) h = lower_first (lowest ss)
lowest_below (false ∷ rs) (false ∷ ss) h = ap (option_map suc) (lowest_below rs ss (omega arith)) ∙ lower_suc (lowest rs) (lowest ss)

-- the first place of two sets side by side
abbrev pub either : List Bool → List Bool → Option ℕ
either rs ss = position (λ p. p.0 || p.1) (zip rs ss)

either_suc : (rs ss : List Bool) → either (false ∷ rs) (false ∷ ss) ≡ option_map suc (either rs ss)
either_suc rs ss = grind (arith, nat_tests)

pub either_lowest : (rs ss : List Bool) → length rs ≡ length ss → either rs ss ≡ lowest (union rs ss)
either_lowest [] ss h = refl
either_lowest (r ∷ rs) [] h = absurd (omega arith)
either_lowest (true ∷ rs) (s ∷ ss) h = grind (arith, nat_tests)
either_lowest (false ∷ rs) (true ∷ ss) h = grind (arith, nat_tests)
either_lowest (false ∷ rs) (false ∷ ss) h = either_suc rs ss ∙ ap (option_map suc) (either_lowest rs ss (omega arith))

-- a level that is not in service
abbrev pub unserved : List Bool → Option ℕ → Option ℕ
unserved ss None = None
unserved ss (Some l) = cond (slice_index_or ss l false) None (Some l)

unserved_suc : (ss : List Bool) (o : Option ℕ) → option_map suc (unserved ss o) ≡ unserved (false ∷ ss) (option_map suc o)
unserved_suc ss None = refl
unserved_suc ss (Some l) = grind (arith, nat_tests)

-- the search below the levels in service ends at the lowest of both sets
pub lowest_unserved : (rs ss : List Bool) → length rs ≡ length ss → lowest (below rs ss) ≡ unserved ss (lowest (union rs ss))
lowest_unserved [] ss h = refl
lowest_unserved (r ∷ rs) [] h = absurd (omega arith)
lowest_unserved (true ∷ rs) (true ∷ ss) h = refl
lowest_unserved (false ∷ rs) (true ∷ ss) h = refl
lowest_unserved (true ∷ rs) (false ∷ ss) h = refl
lowest_unserved (false ∷ rs) (false ∷ ss) h =
    ap (option_map suc) (lowest_unserved rs ss (omega arith)) ∙ unserved_suc ss (lowest (union rs ss))

found_suc : (n : ℕ) (o : Option ℕ) → IfSome o (λ l. l < n) → IfSome (option_map suc o) (λ l. l < suc n)
found_suc n None h = tt
found_suc n (Some l) h = omega arith

-- the lowest place stands within the set
pub lowest_within : (s : List Bool) → IfSome (lowest s) (λ l. l < length s)
lowest_within [] = tt
lowest_within (true ∷ s) = omega arith
lowest_within (false ∷ s) = found_suc (length s) (lowest s) (lowest_within s)

all_suc : (n : ℕ) (ls : List ℕ) → AllByRecursion (λ l. l < n) ls → AllByRecursion (λ l. l < suc n) (map suc ls)
all_suc n ls h = All-map (λ l. l < suc n) suc ls (All-weaker (λ l. l < n) (λ l. suc l < suc n) (λ l k. omega arith) ls h)

-- every place that is set stands within the set
pub levels_within : (s : List Bool) → AllByRecursion (λ l. l < length s) (levels s)
levels_within [] = tt
levels_within (true ∷ s) = (omega arith, all_suc (length s) (levels s) (levels_within s))
levels_within (false ∷ s) = all_suc (length s) (levels s) (levels_within s)

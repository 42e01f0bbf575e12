-- Service is a stack: a level is opened below all that are in service, and the lowest is closed first.
use Rattle.std.proofs.Common.{◌≡◌, ℕ, suc, Bool, true, false, List, [], ◌∷◌, map, set, Some, None, Option, sym, refl, ap, subst}
use Rattle.std.specs.Option.{option_map}
use Rattle.levels.specs.Sets.{lowest, below, ended}
use Rattle.std.proofs.lemmas.Bool.{both_ways}
use Rattle.levels.specs.Levels.{ready, Opened, Closed}

opened_suc : (o : Option ℕ) (ss : List Bool) → Opened o ss → Opened (option_map suc o) (false ∷ ss)
opened_suc None ss h = tt
opened_suc (Some l) ss h = ap (map suc) h

pub opens : (rs ss : List Bool) → Opened (lowest (below rs ss)) ss
opens [] ss = tt
opens (r ∷ rs) [] = tt
opens (r ∷ rs) (true ∷ ss) = tt
opens (true ∷ rs) (false ∷ ss) = refl
opens (false ∷ rs) (false ∷ ss) = opened_suc (lowest (below rs ss)) ss (opens rs ss)

-- what is ready with nesting on opens on top
pub ready_opens : (o : Option ℕ) (rs ss : List Bool) (nesting : Bool) → o ≡ ready rs ss nesting → nesting ≡ true → Opened o ss
ready_opens o rs ss true e n = subst (λ x. Opened x ss) (sym e) (opens rs ss)
ready_opens o rs ss false e n = absurd (both_ways false refl n)

closed_suc : (o : Option ℕ) (ss rest : List Bool) → Closed o ss rest → Closed (option_map suc o) (false ∷ ss) (false ∷ rest)
closed_suc None ss rest h = ap (map suc) h
closed_suc (Some l) ss rest h = ap (map suc) h

pub closes : (ss : List Bool) → Closed (lowest ss) ss (ended ss)
closes [] = refl
closes (true ∷ ss) = refl
closes (false ∷ ss) = closed_suc (lowest ss) ss (ended ss) (closes ss)

-- ending clears the lowest place, or changes nothing where there is none
abbrev pub Clears : Option ℕ → List Bool → List Bool → Type 0
Clears None ss rest = ss ≡ rest
Clears (Some l) ss rest = set ss l false ≡ rest

clears_suc : (o : Option ℕ) (ss rest : List Bool) → Clears o ss rest → Clears (option_map suc o) (false ∷ ss) (false ∷ rest)
clears_suc None ss rest h = ap (λ t. false ∷ t) h
clears_suc (Some l) ss rest h = ap (λ t. false ∷ t) h

pub clears : (ss : List Bool) → Clears (lowest ss) ss (ended ss)
clears [] = refl
clears (true ∷ ss) = refl
clears (false ∷ ss) = clears_suc (lowest ss) ss (ended ss) (clears ss)

pub ending : (o : Option ℕ) (ss : List Bool) → o ≡ lowest ss → Clears o ss (ended ss) × Closed o ss (ended ss)
ending o ss e = subst (λ x. Clears x ss (ended ss) × Closed x ss (ended ss)) (sym e) (clears ss, closes ss)

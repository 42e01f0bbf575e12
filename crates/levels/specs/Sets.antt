-- Sets of levels: place n of the list tells whether level n is in the set.
use Rattle.std.specs.Prelude.{ℕ, suc, Bool, true, false, not, ◌&&◌, ◌||◌, List, [], ◌∷◌, map, Some, None, Option}
use Rattle.std.specs.Option.{option_map}

-- the lowest place that is set
abbrev pub lowest : List Bool → Option ℕ
lowest [] = None
lowest (true ∷ set) = Some 0
lowest (false ∷ set) = option_map suc (lowest set)

-- the set places, lowest first
abbrev pub levels : List Bool → List ℕ
levels [] = []
levels (true ∷ set) = 0 ∷ map suc (levels set)
levels (false ∷ set) = map suc (levels set)

-- the requests at numbers below every level in service: cut at the first level in service
abbrev pub below : List Bool → List Bool → List Bool
below [] service = []
below (r ∷ requests) [] = []
below (r ∷ requests) (true ∷ service) = []
below (r ∷ requests) (false ∷ service) = r ∷ below requests service

-- the set with its lowest place cleared
abbrev pub ended : List Bool → List Bool
ended [] = []
ended (true ∷ set) = false ∷ set
ended (false ∷ set) = false ∷ ended set

-- two sets met place by place
abbrev pub paired : (Bool → Bool → Bool) → List Bool → List Bool → List Bool
paired f [] word = []
paired f (a ∷ set) [] = a ∷ set
paired f (a ∷ set) (b ∷ word) = f a b ∷ paired f set word

-- the places of either set
abbrev pub union : List Bool → List Bool → List Bool
union = paired ◌||◌

-- the places of the first set that the second lacks
abbrev pub minus : List Bool → List Bool → List Bool
minus = paired (λ a b. a && not b)

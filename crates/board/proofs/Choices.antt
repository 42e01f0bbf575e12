-- What several laws need: choices, histories in two parts, and the places of a set.
use Rattle.std.proofs.Common.{◌≡◌, suc, Bool, true, false, cond, List, [], ◌∷◌, ◌++◌, length, refl, ap}
use Rattle.levels.specs.Sets.{ended}
use Rattle.board.specs.Perform.{Call, State, after}
use Rattle.board.specs.Histories.{ran}

-- what holds of both holds of either
pub either : {X : Type 0} (P : X → Type 0) (b : Bool) (x y : X) → P x → P y → P (cond b x y)
either P true x y h k = h
either P false x y h k = k

pub length_ended : (set : List Bool) → length (ended set) ≡ length set
length_ended [] = refl
length_ended (true ∷ set) = refl
length_ended (false ∷ set) = ap suc (length_ended set)

pub ran_append : (cs ds : List Call) (s : State) → ran (cs ++ ds) s ≡ ran ds (ran cs s)
ran_append [] ds s = refl
ran_append (c ∷ cs) ds s = ran_append cs ds (after c s)

-- A script's calls are a history.
use Rattle.std.proofs.Common.{◌≡◌, ℕ, suc, List, [], ◌∷◌, ◌++◌, sym, refl, ap, ◌∙◌}
use Rattle.board.specs.Perform.{Call, State, after, answered}
use Rattle.board.specs.Histories.{ran, answers}
use Rattle.board.proofs.Choices.{ran_append}
use Rattle.bench.specs.Scripts.{line_calls, script_calls, script_answers, ScriptIsAHistory, ScriptAnswers}
use Rattle.bench.specs.Operations.{last_listed, last_answer}

pub script_is_a_history : ScriptIsAHistory
script_is_a_history n [] s = refl
script_is_a_history n (line ∷ lines) s =
    script_is_a_history (suc n) lines (ran (line_calls n line s) s)
    ∙ sym (ran_append (line_calls n line s) (script_calls (suc n) lines (ran (line_calls n line s) s)) s)

answers_append : (cs ds : List Call) (s : State) → answers (cs ++ ds) s ≡ answers cs s ++ answers ds (ran cs s)
answers_append [] ds s = refl
answers_append (c ∷ cs) ds s = ap (λ l. answered c s.board ∷ l) (answers_append cs ds (after c s))

all_answered : (n : ℕ) (lines : List (List ℕ)) (s : State) → script_answers n lines s ≡ answers (script_calls n lines s) s
all_answered n [] s = refl
all_answered n (line ∷ lines) s =
    let cs = line_calls n line s in
    ap (λ l. answers cs s ++ l) (all_answered (suc n) lines (ran cs s))
    ∙ sym (answers_append cs (script_calls (suc n) lines (ran cs s)) s)

last_is_listed : (cs : List Call) (s : State) → last_listed cs s ≡ last_answer (answers cs s)
last_is_listed [] s = refl
last_is_listed (c ∷ []) s = refl
last_is_listed (c ∷ d ∷ cs) s = last_is_listed (d ∷ cs) (after c s)

pub script_answers_all : ScriptAnswers
script_answers_all = record { answered = all_answered; listed = last_is_listed }

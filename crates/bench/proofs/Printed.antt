-- What a line that is run prints and leaves.
use Rattle.std.proofs.Common.{◌≡◌, ℕ, ◌≤◌, cond, List, Some, None, Ok, Err, Result, sym, ap, ◌∙◌}
use Rattle.std.proofs.lemmas.Bool.{le-ltb}
use Rattle.script.specs.declared.items.Operation.{Operation}
use Rattle.script.specs.declared.items.Fault.{Fault}
use Rattle.script.specs.Lines.{Content, step}
use Rattle.listing.specs.declared.lines.Line.{Line}
use Rattle.listing.specs.Layout.{layout}
use Rattle.refusals.specs.declared.refusal.Refusal.{Refusal}
use Rattle.board.specs.Perform.{State}
use Rattle.board.specs.Histories.{ran}
use Rattle.bench.specs.Operations.{calls_of, last_listed, line_of, fault_line}
use Rattle.bench.specs.Scripts.{item_prints, last_line, said_prints}

-- a line within the script prints what it says
pub within : {said means : Result Content Fault} (number : ℕ) (s : State) → number ≤ last_line → said ≡ means → item_prints number means s ≡ said_prints number said s
within {said} {means} number s h e = ap (λ b. cond b None (item_prints number means s)) (sym (le-ltb last_line number h)) ∙ ap (λ x. said_prints number x s) (sym e)

pub step_prints : (number : ℕ) (operation : Operation) (s t : State) (answer : Result ℕ Refusal) (clock : ℕ) (l : Line) (out : List ℕ)
    → answer ≡ last_listed (calls_of operation s) s → t ≡ ran (calls_of operation s) s → clock ≡ t.board.clock → l ≡ line_of number answer clock → out ≡ layout l
    → Some out ≡ item_prints number (Ok (step operation)) s
step_prints number operation s t answer clock l out ea et ec el eo =
    (λ i. Some (eo i)) ∙ (λ i. Some (layout (el i))) ∙ (λ i. Some (layout (line_of number (ea i) ((ec ∙ ap (λ x. x.board.clock) et) i))))

pub fault_prints : (number : ℕ) (fault : Fault) (s : State) (l : Line) (out : List ℕ) → l ≡ fault_line number fault.column → out ≡ layout l → Some out ≡ item_prints number (Err fault) s
fault_prints number fault s l out el eo = (λ i. Some (eo i)) ∙ (λ i. Some (layout (el i)))

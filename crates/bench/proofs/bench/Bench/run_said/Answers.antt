use Rattle.std.proofs.Common.{◌≡◌, Err, Ok, ap, ◌∙◌, rules}
use Rattle.script.specs.Lines.{step, content}
use Rattle.bench.specs.Benches.{state_of}
use Rattle.bench.proofs.Printed.{within, step_prints, fault_prints}
use Rattle.bench.proofs.bench.Bench.run_said.Goals as goal

pub returns-in-Ok-Step-clause-prints : goal.returns-in-Ok-Step-clause-prints
returns-in-Ok-Step-clause-prints c =
    let s = state_of c.args.self.now in
    let says : content c.args.said ≡ Ok (step c.in-Ok-Step.operation) = search rules in
    step_prints c.args.number c.in-Ok-Step.operation s _ _ _ _ _ c.operate.ensures.answer c.operate.ensures.state c.clock-last.ensures.value (ap (λ a. record { number = c.args.number; answer = a; last = c.clock-last.result }) c.shown-answer.ensures) c.write_line.ensures.columns
    ∙ within c.args.number s c.if-number-gt-LAST_LINE.false says

pub returns-in-Err-clause-prints : goal.returns-in-Err-clause-prints
returns-in-Err-clause-prints c =
    let s = state_of c.args.self.now in
    let says : content c.args.said ≡ Err c.in-Err.fault = search rules in
    fault_prints c.args.number c.in-Err.fault s _ _ (λ i. record { number = c.args.number; answer = c.shown.ensures i; last = c.from.ensures i }) c.write_line-in-Err.ensures.columns
    ∙ within c.args.number s c.if-number-gt-LAST_LINE.false says

use Rattle.std.proofs.Common.{◌∙◌, inl, inr, arith}
use Rattle.timers.proofs.Waits.{apart_quiet, apart_heard, joined_quiet, joined_heard, min_choice}
use Rattle.timers.proofs.duo.Duo.wait.Goals as goal

pub returns-in-Apart-clause-quiet : goal.returns-in-Apart-clause-quiet
returns-in-Apart-clause-quiet c =
    simp c.in-Apart.is (λ k h. apart_quiet c.in-Apart.low c.in-Apart.high c.args.watched c.args.self.now k
    (c.wait-first.ensures.quiet k (omega (arith, h, c.min.ensures))) (c.wait.ensures.quiet k (omega (arith, h, c.min.ensures))))

pub returns-in-Apart-clause-ends : goal.returns-in-Apart-clause-ends
returns-in-Apart-clause-ends c =
    simp c.in-Apart.is (λ f. apart_heard c.in-Apart.low c.in-Apart.high c.args.watched c.args.self.now c.min.result
    (elim (min_choice c.wait-first.result c.wait.result) [
      | inl e ↦ (let z = c.min.ensures ∙ e in inl (rw z (c.wait-first.ensures.ends (rw z at f))))
      | inr e ↦ (let z = c.min.ensures ∙ e in inr (rw z (c.wait.ensures.ends (rw z at f))))
    ]))

pub returns-in-Joined-clause-quiet : goal.returns-in-Joined-clause-quiet
returns-in-Joined-clause-quiet c =
    simp c.in-Joined.is (λ k h. joined_quiet c.in-Joined.on c.args.watched c.args.self.now k
    (rw c.value.ensures.joined at (c.wait-in-Joined.ensures.quiet k h)))

pub returns-in-Joined-clause-ends : goal.returns-in-Joined-clause-ends
returns-in-Joined-clause-ends c =
    simp c.in-Joined.is (λ f. joined_heard c.in-Joined.on c.args.watched c.args.self.now c.wait-in-Joined.result
    (rw c.value.ensures.joined at (c.wait-in-Joined.ensures.ends f)))

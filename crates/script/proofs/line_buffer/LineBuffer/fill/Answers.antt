use Rattle.std.proofs.Common.{arith}
use Rattle.script.proofs.Gathering.{if_known, none_read, ended_line, ended_rest, line_line, line_rest, more}
use Rattle.script.proofs.line_buffer.LineBuffer.fill.Goals as goal

pub returns-in-Ok-eq0-clause-line : goal.returns-in-Ok-eq0-clause-line
returns-in-Ok-eq0-clause-line g c =
    let h = none_read _ _ _ _ _ c.read.ensures.bytes c.in-Ok-eq0.is c.in-Ok-eq0.field-0-test (omega (arith, c.read.auto.buf)) in
    if_known _ _ (λ bytes e. ended_line _ bytes _ _ _ _ (c.loop.invariant bytes e) h.0 h.1)

pub returns-in-Ok-eq0-clause-rest : goal.returns-in-Ok-eq0-clause-rest
returns-in-Ok-eq0-clause-rest g c =
    let h = none_read _ _ _ _ _ c.read.ensures.bytes c.in-Ok-eq0.is c.in-Ok-eq0.field-0-test (omega (arith, c.read.auto.buf)) in
    if_known _ _ (λ bytes e. ended_rest _ bytes _ _ _ _ (c.loop.invariant bytes e) h.0 h.1)

pub returns-in-Ok-clause-line : goal.returns-in-Ok-clause-line
returns-in-Ok-clause-line g c =
    if_known _ _ (λ bytes e. line_line _ bytes _ _ _ _ (c.loop.invariant bytes e) _ _ c.read.auto.buf (omega (arith, c.in-Ok.field-0-test.1)) c.in-Ok.ensures.bytes.0 c.if-byte-eq10.true)

pub returns-in-Ok-clause-rest : goal.returns-in-Ok-clause-rest
returns-in-Ok-clause-rest g c =
    if_known _ _ (λ bytes e. line_rest _ bytes _ _ _ _ (c.loop.invariant bytes e) _ _ c.read.auto.buf (omega (arith, c.in-Ok.field-0-test.1)) c.in-Ok.ensures.bytes.0 c.if-byte-eq10.true)

pub loop-preserved : goal.loop-preserved
loop-preserved g c bytes e =
    let pushed = rw c.in_ok-push-in-Ok-2.was at c.push.ensures in
    rw pushed (
    more _ bytes _ _ _ _ (c.loop.invariant bytes e) _ _ c.read.auto.buf (omega (arith, c.in-Ok.field-0-test.1)) c.in-Ok.ensures.bytes.0 c.if-byte-eq10.false
    )

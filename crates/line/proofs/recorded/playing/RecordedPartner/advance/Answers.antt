use Rattle.std.proofs.Common.{◌∙◌, rules}
use Rattle.std.specs.Vec.Iter.{into_iter_items}
use Rattle.line.proofs.Playing.{next_under_way, tape_stays, tape_turns}
use Rattle.line.proofs.recorded.playing.RecordedPartner.advance.Goals as goal

pub returns-then-clocks-wait : goal.returns-then-clocks-wait
returns-then-clocks-wait c =
    let at = c.loop-self in
    let stays = tape_stays at.clocks at.self.level at.self.left (into_iter_items at.self.waits) _ _ c.in-Some.is (c.from-wait.ensures ∙ c.max.ensures) c.if-clocks-wait.true in
    search rules

pub loop-self-preserved : goal.loop-self-preserved
loop-self-preserved c =
    let at = c.loop-self in
    let next = next_under_way c.next-self.result at.self.waits c.next-self.new.self at.self.waits.rest.ok.0 c.next-self.ensures.cases in
    let turns = tape_turns at.clocks at.self.level at.self.left (into_iter_items at.self.waits) _ _ c.in-Some.is (c.from-wait.ensures ∙ c.max.ensures) _ next c.if-clocks-wait.false in
    search rules

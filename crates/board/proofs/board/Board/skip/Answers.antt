use Rattle.std.proofs.Common.{◌+◌, le_refl, subst, sym, ◌∙◌, rules}
use Rattle.muart.specs.Clock.{Still}
use Rattle.board.specs.Views.{view}
use Rattle.board.proofs.Clocks.{Calm, still_calm, calm_clocks, calm_silent}
use Rattle.board.proofs.board.Board.skip.Goals as goal

pub skip-requires-clause-still : goal.skip-requires-clause-still
skip-requires-clause-still g c = subst (λ b. Still c.args.clocks b.unit) (sym c.self.view_is) (c.requires.still c.args.clocks (le_refl c.args.clocks))

pub returns : goal.returns
returns g c =
    let n = c.args.clocks in
    let v = view g.P.Partner.meaning c.args.self.now in
    let calm = still_calm n v c.requires.still c.requires.steady c.requires.same in
    rw (← c.self.view_is)
    let inside = subst (λ b. Calm n (view g.P.Partner.meaning b)) (sym c.self.view_is) calm in
    record {
      view = (λ i. record { unit = c.skip.ensures.after i; partner = c.advance.ensures i; clock = c.self.inside.clock + n }) ∙ sym (calm_clocks n _ inside);
      silent = calm_silent n _ inside;
      counted = search rules;
    }

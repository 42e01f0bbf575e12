use Rattle.std.proofs.Common.{◌≡◌, arith, rules}
use Rattle.listing.specs.Layout.{shown_of}
use Rattle.listing.proofs.Parts.{layout_printed}
use Rattle.listing.proofs.lines.write_line.Goals as goal

pub returns-clause-printed : goal.returns-clause-printed
returns-clause-printed c =
    let shown : shown_of c.args.line.now.answer ≡ c.unwrap_or_else-answer.result = search rules in
    layout_printed c.args.line.now _ (search rules) c.requires.number (omega arith) c.requires.last

-- A line's columns are what `{n}` writes of its numbers.
use Rattle.std.proofs.Common.{◌≡◌, ℕ, ◌^◌, ◌<◌, List, ◌∙◌, arith}
use Rattle.listing.specs.Layout.{shown_of, layout, printed}
use Rattle.listing.specs.declared.lines.Line.{Line}
use Rattle.listing.proofs.Decimal.{justified_decimal}

pub layout_printed : (line : Line) (bytes : List ℕ) → bytes ≡ layout line → line.number < 10 ^ 5 → shown_of line.answer < 10 ^ 4 → line.last < 10 ^ 16 → bytes ≡ printed line
layout_printed line bytes e n a l =
    e ∙ rw (
      ← justified_decimal 5 line.number n (omega arith) (omega arith),
      ← justified_decimal 4 (shown_of line.answer) a (omega arith) (omega arith),
      ← justified_decimal 16 line.last l (omega arith) (omega arith),
    )

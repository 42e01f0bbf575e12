use Rattle.std.proofs.Common.{◌≡◌, ◌/◌, ◌^◌, take, reverse}
use Rattle.listing.specs.Columns.{justified}
use Rattle.listing.proofs.number.write_number.Given as goal

abbrev pub invariant-loop-place : goal.invariant-loop-place
invariant-loop-place l = record {
  rest_left : l.rest ≡ l.number / 10 ^ l.place;
  written : take l.place l.columns ≡ reverse (justified l.place l.number);
}

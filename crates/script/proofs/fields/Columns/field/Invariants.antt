use Rattle.std.proofs.Common.{◌≡◌, ◌+◌, ◌-◌, ◌^◌, ◌<◌, is_some, unwrap_or}
use Rattle.std.specs.Slice.Iter.{iter_rest}
use Rattle.script.specs.Fields.{field_of, read_on}
use Rattle.script.proofs.fields.Columns.field.Given as goal

abbrev pub invariant-loop-column : goal.invariant-loop-column
invariant-loop-column l = record {
  to_read : read_on (l.self.last + 1 - l.column) l.column (is_some l.number) (unwrap_or l.number 0) (iter_rest l.bytes) ≡ field_of l.self.first l.self.last l.line;
  small : unwrap_or l.number 0 < 10 ^ (l.column - l.self.first);
}

-- The two recorders together.
use Rattle.recorder.specs.Recording.{Extended}
use Rattle.marks.specs.declared.recorders.Recorders.{Recorders}

-- How marking leaves the two recorders: each is extended.
pub record BothExtended (before after : Recorders) : Type 0 where
  pub wires : Extended before.wires after.wires
  pub services : Extended before.services after.services

-- What a stand-in holds.
use Rattle.muart.specs.declared.state.Rest.{Rest}
use Rattle.muart.specs.declared.state.Sensitive.{Sensitive}

-- what reading a register leaves as it is, and what it may change
pub record Parts : Type 0 where
  pub rest : Rest
  pub sensitive : Sensitive

abbrev pub parts : Rest → Sensitive → Parts
parts r v = record { rest = r; sensitive = v }

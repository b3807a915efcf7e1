-- A fault script as plain data.
use Rattle.std.specs.Prelude.{ℕ, List}
use Rattle.scram_types.specs.declared.scripts.Change.{Change}
use Rattle.scram_types.specs.declared.scripts.HaltAt.{HaltAt}
use Rattle.scram_types.specs.declared.scripts.RestartAt.{RestartAt}

-- A fault script, as contracts see it.
pub record ScriptParts : Type 0 where
  pub frames : ℕ
  pub changes : List Change
  pub halts : List HaltAt
  pub restarts : List RestartAt

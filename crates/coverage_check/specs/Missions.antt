-- A mission: an accepted specification, and a script that fits the specification and keeps to its failure assumption.
use Rattle.scram_types.specs.Specification.{Parts}
use Rattle.scram_types.specs.Scripts.{ScriptParts}
use Rattle.fault_script.specs.Fits.{Fits}
use Rattle.fault_script.specs.Assumption.{IsWithin}
use Rattle.coverage_check.specs.Acceptance.{Accepts}

-- A specification and a script.
pub record MissionParts : Type 0 where
  pub spec : Parts
  pub script : ScriptParts

-- The specification is accepted, and the script fits the specification and keeps to its failure assumption.
pub record IsMission (mission : MissionParts) : Type 0 where
  pub accepts : Accepts mission.spec
  pub fits : Fits mission.spec mission.script
  pub within : IsWithin mission.spec mission.script

-- The mission of a specification and a script.
abbrev pub mission_of : Parts → ScriptParts → MissionParts
mission_of spec script = record { spec = spec; script = script }

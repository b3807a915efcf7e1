-- An accepted specification and a script that fits the specification are a mission if the script never leaves the
-- failure assumption.
use Rattle.std.proofs.Common.{◌≡◌, None}
use Rattle.scram_types.specs.Scripts.{ScriptParts}
use Rattle.scram_types.specs.Specification.{Parts}
use Rattle.fault_script.specs.Assumption.{first_outside}
use Rattle.fault_script.specs.Fits.{Fits}
use Rattle.fault_script.proofs.Assuming.{leaves_nowhere}
use Rattle.coverage_check.specs.Acceptance.{Accepts}
use Rattle.coverage_check.specs.Missions.{IsMission, mission_of}

pub is_mission : (spec : Parts) (script : ScriptParts) → Accepts spec → Fits spec script → first_outside spec script ≡ None → IsMission (mission_of spec script)
is_mission spec script accepts fits nowhere = record { accepts = accepts; fits = fits; within = (leaves_nowhere spec script).within nowhere }

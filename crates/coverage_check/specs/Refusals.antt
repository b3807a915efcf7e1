-- The refusal of a script for a mission.
use Rattle.std.specs.Prelude.{◌≡◌, Some}
use Rattle.scram_types.specs.Specification.{Parts}
use Rattle.scram_types.specs.Scripts.{ScriptParts}
use Rattle.fault_script.specs.Assumption.{first_outside}
use Rattle.coverage_check.specs.declared.missions.NotWithin.{NotWithin}

-- The refusal contains the specification, the script, and the first frame outside the failure assumption.
pub record IsNotWithin (spec : Parts) (script : ScriptParts) (refused : NotWithin) : Type 0 where
  pub accepted : refused.accepted ≡ spec
  pub script_back : refused.script ≡ script
  pub outside : first_outside spec script ≡ Some refused.outside

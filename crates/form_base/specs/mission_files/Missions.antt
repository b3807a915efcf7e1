-- The missions that consist of a specification and a script, and their refusals.
use Rattle.std.specs.Prelude.{◌≡◌, ◌≢◌, ◌⊎◌, ℕ, List, Option, Some, None, Result, Ok, Err}
use Rattle.scram_types.specs.Scripts.{ScriptParts}
use Rattle.scram_types.specs.Specification.{Parts}
use Rattle.fault_script.specs.declared.assumption.Outside.{Outside}
use Rattle.fault_script.specs.Assumption.{first_outside}
use Rattle.coverage_check.specs.declared.shown.Shown.{Shown}
use Rattle.coverage_check.specs.Acceptance.{first_refusal}
use Rattle.coverage_check.specs.Missions.{MissionParts, mission_of}
use Rattle.form_base.specs.declared.refusals.Refusal.{Refusal}
use Rattle.form_base.specs.declared.status.TheConstants.{UNASSUMED_SCRIPT, UNREAD_FILE}
use Rattle.form_base.specs.Acceptance.{acceptance_refusal}
use Rattle.form_base.specs.Answers.{Gives}
use Rattle.form_base.specs.Loads.{IsOutOfMemory}
use Rattle.form_base.specs.Refusals.{answer_of}
use Rattle.form_base.specs.mission_files.Lines.{outside_line}

-- The refusal of a script. The argument is the way in which the script violates the failure assumption, or `None` if
-- the script keeps to the assumption. In the second case, the result is `None`.
abbrev pub script_refusal : Option Outside → Option (ℕ × List ℕ)
script_refusal None = None
script_refusal (Some outside) = Some (UNASSUMED_SCRIPT, outside_line outside)

-- The refusal of a specification and a script for it. The last argument is the first refusal of the specification, or
-- `None` if the specification is accepted. The result is `None` if neither the specification nor the script is
-- refused.
abbrev pub refusal_by : Parts → ScriptParts → Option Shown → Option (ℕ × List ℕ)
refusal_by spec script (Some shown) = acceptance_refusal spec (Some shown)
refusal_by spec script None = script_refusal (first_outside spec script)

-- The refusal of a specification and a script for it, or `None` if the two form a mission.
abbrev pub mission_refusal : Parts → ScriptParts → Option (ℕ × List ℕ)
mission_refusal spec script = refusal_by spec script (first_refusal spec)

-- The answer is the refusal if there is one, and `Answers` otherwise.
abbrev pub UnlessRefused : Option (ℕ × List ℕ) → (ℕ → List ℕ → Type 0) → ℕ → List ℕ → Type 0
UnlessRefused (Some refusal) Answers = Gives refusal
UnlessRefused None Answers = Answers

-- The result is the mission of a specification and a script, their refusal, or the out-of-memory refusal. The status
-- of a refusal is not `UNREAD_FILE`.
abbrev pub MakesMission : Parts → ScriptParts → Result MissionParts Refusal → Type 0
MakesMission spec script (Ok mission) = (mission ≡ mission_of spec script) × (mission_refusal spec script ≡ None)
MakesMission spec script (Err refusal) =
    ((mission_refusal spec script ≡ Some (answer_of refusal)) ⊎ IsOutOfMemory (answer_of refusal)) × ((answer_of refusal).0 ≢ UNREAD_FILE)

-- The result is the mission of an accepted specification and a script, or the script's refusal. The status of the
-- refusal is not `UNREAD_FILE`.
abbrev pub JoinsMission : Parts → ScriptParts → Result MissionParts Refusal → Type 0
JoinsMission spec script (Ok mission) = (mission ≡ mission_of spec script) × (script_refusal (first_outside spec script) ≡ None)
JoinsMission spec script (Err refusal) = (script_refusal (first_outside spec script) ≡ Some (answer_of refusal)) × ((answer_of refusal).0 ≢ UNREAD_FILE)

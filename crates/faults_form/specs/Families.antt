-- The text of a family of fault scripts.
use Rattle.std.specs.Prelude.{ℕ, List, [], ◌∷◌, ◌++◌, flat_map, if◌then◌else◌}
use Rattle.scram_types.specs.Specification.{Parts}
use Rattle.fault_family.specs.declared.faults.Fault.{Fault}
use Rattle.fault_family.specs.Families.{extended, family, may_follow}
use Rattle.fault_family.specs.Scripts.{is_within, script_of_faults}
use Rattle.faults_form.specs.Lines.{faults_line}

-- The lines of the scripts that begin with the faults `before` and have `more` further faults, in order.
abbrev pub extended_text : Parts → ℕ → List Fault → List ℕ
extended_text spec more before = flat_map (faults_line spec) (extended spec more before)

-- The line of the script with the given faults, or the empty text if the script violates the failure assumption.
abbrev pub within_text : Parts → List Fault → List ℕ
within_text spec faults = if is_within spec (script_of_faults spec faults) then faults_line spec faults else []

-- The lines of the scripts with `count` faults, in order.
abbrev pub family_text : Parts → ℕ → List ℕ
family_text spec count = flat_map (faults_line spec) (family spec count)

-- The lines of the scripts that begin with the faults `before`, continue with `fault`, and have `more` further
-- faults. The text is empty if `fault` may not follow `before`.
abbrev pub branch_text : Parts → ℕ → List Fault → Fault → List ℕ
branch_text spec more before fault = if may_follow spec before fault then extended_text spec more (before ++ fault ∷ []) else []

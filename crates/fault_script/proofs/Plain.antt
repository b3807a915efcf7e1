-- The value of a script contains no float and is not deeply nested.
use Rattle.std.proofs.Common.{◌≡◌, ◌≤◌, false, List, [], ◌∷◌, arith, refl}
use Rattle.serde_json.specs.Data.{depth}
use Rattle.serde_json.specs.Read.{max_depth}
use Rattle.serde_json.specs.Written.{has_float}
use Rattle.scram_doc.proofs.Plain.{low, no_float}
use Rattle.scram_types.specs.declared.scripts.RestartAt.{RestartAt}
use Rattle.scram_types.specs.Scripts.{ScriptParts}
use Rattle.scram_types.specs.Specification.{Parts}
use Rattle.fault_script.specs.Texts.{change_data, data_without_restarts, halt_data, restart_data, script_data, script_data_by, data_with_restarts}

first_no_float : (spec : Parts) (script : ScriptParts) → has_float (data_without_restarts spec script) ≡ false
first_no_float spec script = rw (no_float (change_data spec) (λ x. refl) script.changes, no_float (halt_data spec) (λ x. refl) script.halts) refl

second_no_float : (spec : Parts) (script : ScriptParts) → has_float (data_with_restarts spec script) ≡ false
second_no_float spec script =
    rw (no_float (change_data spec) (λ x. refl) script.changes, no_float (halt_data spec) (λ x. refl) script.halts, no_float (restart_data spec) (λ x. refl) script.restarts) refl

no_float_by : (restarts : List RestartAt) (spec : Parts) (script : ScriptParts) → has_float (script_data_by restarts spec script) ≡ false
no_float_by [] spec script = first_no_float spec script
no_float_by (r ∷ rs) spec script = second_no_float spec script

pub script_no_float : (spec : Parts) (script : ScriptParts) → has_float (script_data spec script) ≡ false
script_no_float spec script = no_float_by script.restarts spec script

first_depth : (spec : Parts) (script : ScriptParts) → depth (data_without_restarts spec script) ≤ max_depth
first_depth spec script =
    let changes = low (change_data spec) 1 (λ x. omega arith) script.changes in let halts = low (halt_data spec) 1 (λ x. omega arith) script.halts in omega (arith, changes, halts)

second_depth : (spec : Parts) (script : ScriptParts) → depth (data_with_restarts spec script) ≤ max_depth
second_depth spec script =
    let changes = low (change_data spec) 1 (λ x. omega arith) script.changes in let halts = low (halt_data spec) 1 (λ x. omega arith) script.halts in
    let restarts = low (restart_data spec) 1 (λ x. omega arith) script.restarts in omega (arith, changes, halts, restarts)

depth_by : (restarts : List RestartAt) (spec : Parts) (script : ScriptParts) → depth (script_data_by restarts spec script) ≤ max_depth
depth_by [] spec script = first_depth spec script
depth_by (r ∷ rs) spec script = second_depth spec script

pub script_depth : (spec : Parts) (script : ScriptParts) → depth (script_data spec script) ≤ max_depth
script_depth spec script = depth_by script.restarts spec script

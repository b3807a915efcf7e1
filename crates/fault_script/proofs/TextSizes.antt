-- The canonical text of a script that fits has at most 2,097,152 bytes.
use Rattle.std.proofs.Common.{◌≡◌, ◌≤◌, ℕ, List, [], ◌∷◌, length, map, arith, refl}
use Rattle.std.specs.Prelude.{Option, Some, None, codes, slice_get}
use Rattle.std.specs.Option.{option_map_or}
use Rattle.serde_json.specs.View.{items_of}
use Rattle.scram_types.specs.declared.limits.TheConstants.{MAX_FRAMES, MAX_SCRIPT_BYTES}
use Rattle.scram_types.specs.declared.scripts.Change.{Change}
use Rattle.scram_types.specs.declared.scripts.HaltAt.{HaltAt}
use Rattle.scram_types.specs.declared.scripts.RestartAt.{RestartAt}
use Rattle.scram_types.specs.declared.specification.Factor.{Factor}
use Rattle.scram_types.specs.declared.specification.Proc.{Proc}
use Rattle.scram_types.specs.Lookups.{value_name}
use Rattle.scram_types.specs.Scripts.{ScriptParts}
use Rattle.scram_types.specs.Specification.{HasNames, HasValueNames, IsSpec, Parts}
use Rattle.fault_script.specs.Fits.{Fits, IsChange, IsHalt, IsRestart}
use Rattle.fault_script.specs.Texts.{change_data, halt_data, restart_data, script_data, script_data_by, script_text}
use Rattle.scram_doc.proofs.TextLengths.{exact, found_length, items_weight, list_weight, no_longer, number_weight, quoted_length, weight}

value_length : (found : Option Factor) (value : ℕ) → ((factor : Factor) → found ≡ Some factor → HasValueNames factor)
    → exact (option_map_or (λ (factor : Factor). value_name factor value) found []) ≤ 18
value_length None value named = omega arith
value_length (Some factor) value named = found_length (λ (name : List ℕ). name) (slice_get factor.values value) (named factor refl value)

change_short : (spec : Parts) (frames : ℕ) (change : Change) → HasNames spec → frames ≤ MAX_FRAMES → IsChange spec frames change → weight exact (change_data spec change) ≤ 71
change_short spec frames change names most fits =
    let last = fits.most in
    let frame = number_weight exact 5 change.frame (omega arith) (omega (arith, last, most)) (omega (arith, last, most)) in
    let factor = found_length (λ (factor : Factor). factor.name) (slice_get spec.factors change.factor.0) (names.factors change.factor.0) in
    let value = value_length (slice_get spec.factors change.factor.0) change.value (names.values change.factor.0) in
    omega (arith, frame, factor, value, quoted_length (codes "factor") refl, quoted_length (codes "frame") refl, quoted_length (codes "value") refl)

halt_short : (spec : Parts) (frames : ℕ) (halt : HaltAt) → IsSpec spec → frames ≤ MAX_FRAMES → IsHalt spec frames halt → weight exact (halt_data spec halt) ≤ 57
halt_short spec frames halt is most fits =
    let last = fits.frame in
    let stores = fits.step in
    let apps = is.apps_count.few in
    let frame = number_weight exact 5 halt.frame (omega arith) (omega (arith, last, most)) (omega (arith, last, most)) in
    let proc = found_length (λ (proc : Proc). proc.name) (slice_get spec.procs halt.proc.0) (is.names.procs halt.proc.0) in
    let step = number_weight exact 2 halt.step (omega arith) (omega (arith, stores, apps)) (omega (arith, stores, apps)) in
    omega (arith, frame, proc, step, quoted_length (codes "frame") refl, quoted_length (codes "processor") refl, quoted_length (codes "step") refl)

restart_short : (spec : Parts) (frames : ℕ) (restart : RestartAt) → HasNames spec → frames ≤ MAX_FRAMES → IsRestart spec frames restart → weight exact (restart_data spec restart) ≤ 47
restart_short spec frames restart names most fits =
    let last = fits.most in
    let frame = number_weight exact 5 restart.frame (omega arith) (omega (arith, last, most)) (omega (arith, last, most)) in
    let proc = found_length (λ (proc : Proc). proc.name) (slice_get spec.procs restart.proc.0) (names.procs restart.proc.0) in
    omega (arith, frame, proc, quoted_length (codes "frame") refl, quoted_length (codes "processor") refl)

changes_short : (spec : Parts) (script : ScriptParts) → IsSpec spec → Fits spec script → items_weight exact (items_of (map (change_data spec) script.changes)) ≤ 1440001
changes_short spec script is fits =
    let few = fits.changes_count in
    let sum = list_weight exact (change_data spec) 71 script.changes (λ i change there. change_short spec script.frames change is.names fits.frames (fits.changes i change there)) in
    omega (arith, few, sum)

halts_short : (spec : Parts) (script : ScriptParts) → IsSpec spec → Fits spec script → items_weight exact (items_of (map (halt_data spec) script.halts)) ≤ 929
halts_short spec script is fits =
    let few = fits.halts_count in
    let sum = list_weight exact (halt_data spec) 57 script.halts (λ i halt there. halt_short spec script.frames halt is fits.frames (fits.halts i halt there)) in
    omega (arith, few, sum)

restarts_short : (spec : Parts) (script : ScriptParts) → IsSpec spec → Fits spec script → items_weight exact (items_of (map (restart_data spec) script.restarts)) ≤ 385
restarts_short spec script is fits =
    let few = fits.restarts_count in
    let sum = list_weight exact (restart_data spec) 47 script.restarts (λ i restart there. restart_short spec script.frames restart is.names fits.frames (fits.restarts i restart there)) in
    omega (arith, few, sum)

-- The value of a script that fits has a weight of at most 1,500,000 in either version.
light : (restarts : List RestartAt) (spec : Parts) (script : ScriptParts) → IsSpec spec → Fits spec script → weight exact (script_data_by restarts spec script) ≤ 1500000
light [] spec script is fits =
    let most = fits.frames in
    let changes = changes_short spec script is fits in
    let frames = number_weight exact 5 script.frames (omega arith) (omega (arith, most)) (omega (arith, most)) in
    let halts = halts_short spec script is fits in
    let version = number_weight exact 1 1 (omega arith) (omega arith) (omega arith) in
    omega (arith, changes, frames, halts, version, quoted_length (codes "changes") refl, quoted_length (codes "frames") refl, quoted_length (codes "halts") refl, quoted_length (codes "scram") refl)
light (r ∷ rs) spec script is fits =
    let most = fits.frames in
    let changes = changes_short spec script is fits in
    let frames = number_weight exact 5 script.frames (omega arith) (omega (arith, most)) (omega (arith, most)) in
    let halts = halts_short spec script is fits in
    let restarts = restarts_short spec script is fits in
    let version = number_weight exact 1 2 (omega arith) (omega arith) (omega arith) in
    omega (arith, changes, frames, halts, restarts, version, quoted_length (codes "changes") refl, quoted_length (codes "frames") refl, quoted_length (codes "halts") refl, quoted_length (codes "restarts") refl, quoted_length (codes "scram") refl)

pub script_text_short : (spec : Parts) (script : ScriptParts) → IsSpec spec → Fits spec script → length (script_text spec script) ≤ MAX_SCRIPT_BYTES
script_text_short spec script is fits =
    let weighed = light script.restarts spec script is fits in
    let written = no_longer exact (λ text. omega arith) (script_data spec script) in
    omega (arith, weighed, written)

-- The canonical text of a script: the compact JSON text of its value, whose members are sorted by their bytes.
use Rattle.std.specs.Prelude.{List, ℕ, [], ◌∷◌, codes, slice_get}
use Rattle.std.specs.Option.{option_map_or}
use Rattle.serde_json.specs.Data.{Data, string, object, no_members, member}
use Rattle.serde_json.specs.Written.{compact_text}
use Rattle.scram_types.specs.declared.scripts.Change.{Change}
use Rattle.scram_types.specs.declared.scripts.HaltAt.{HaltAt}
use Rattle.scram_types.specs.declared.scripts.RestartAt.{RestartAt}
use Rattle.scram_types.specs.declared.specification.Factor.{Factor}
use Rattle.scram_types.specs.Lookups.{factor_name, proc_name, value_name}
use Rattle.scram_types.specs.Scripts.{ScriptParts}
use Rattle.scram_doc.specs.Canonical.{count_data, list_data}
use Rattle.scram_types.specs.Specification.{Parts}

-- The name of the value that a change sets, or the empty name if its factor does not exist.
abbrev pub new_value_name : Parts → Change → List ℕ
new_value_name spec change =
    option_map_or (λ (factor : Factor). value_name factor change.value) (slice_get spec.factors change.factor.0) []

-- The canonical value of a change.
abbrev pub change_data : Parts → Change → Data
change_data spec change = object
    (member (codes "factor") (string (factor_name spec change.factor.0))
    (member (codes "frame") (count_data change.frame)
    (member (codes "value") (string (new_value_name spec change)) no_members)))

-- The canonical value of a halt.
abbrev pub halt_data : Parts → HaltAt → Data
halt_data spec halt = object
    (member (codes "frame") (count_data halt.frame)
    (member (codes "processor") (string (proc_name spec halt.proc.0))
    (member (codes "step") (count_data halt.step) no_members)))

-- The canonical value of a restart.
abbrev pub restart_data : Parts → RestartAt → Data
restart_data spec restart = object
    (member (codes "frame") (count_data restart.frame)
    (member (codes "processor") (string (proc_name spec restart.proc.0)) no_members))

-- The canonical value of a script in the first version, which has no restarts.
abbrev pub data_without_restarts : Parts → ScriptParts → Data
data_without_restarts spec script = object
    (member (codes "changes") (list_data (change_data spec) script.changes)
    (member (codes "frames") (count_data script.frames)
    (member (codes "halts") (list_data (halt_data spec) script.halts)
    (member (codes "scram") (count_data 1) no_members))))

-- The canonical value of a script in the second version, which has restarts.
abbrev pub data_with_restarts : Parts → ScriptParts → Data
data_with_restarts spec script = object
    (member (codes "changes") (list_data (change_data spec) script.changes)
    (member (codes "frames") (count_data script.frames)
    (member (codes "halts") (list_data (halt_data spec) script.halts)
    (member (codes "restarts") (list_data (restart_data spec) script.restarts)
    (member (codes "scram") (count_data 2) no_members)))))

-- The number of the version in which a script with these restarts is written.
abbrev pub version_for : List RestartAt → ℕ
version_for [] = 1
version_for (_ ∷ _) = 2

-- The canonical value of a script, given its list of restarts: in the first version if the list is empty, else in the
-- second.
abbrev pub script_data_by : List RestartAt → Parts → ScriptParts → Data
script_data_by [] spec script = data_without_restarts spec script
script_data_by (_ ∷ _) spec script = data_with_restarts spec script

-- The canonical value of a script.
abbrev pub script_data : Parts → ScriptParts → Data
script_data spec script = script_data_by script.restarts spec script

-- The canonical text of a script.
abbrev pub script_text : Parts → ScriptParts → List ℕ
script_text spec script = compact_text (script_data spec script)

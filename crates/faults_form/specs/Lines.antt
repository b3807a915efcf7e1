-- The line of a script, with its canonical text spelled member by member.
use Rattle.std.specs.Prelude.{ℕ, Bool, true, false, List, [], ◌∷◌, ◌++◌, map, codes, decimal}
use Rattle.serde_json.specs.Written.{comma_if}
use Rattle.scram_types.specs.declared.scripts.Change.{Change}
use Rattle.scram_types.specs.declared.scripts.HaltAt.{HaltAt}
use Rattle.scram_types.specs.declared.scripts.RestartAt.{RestartAt}
use Rattle.scram_types.specs.Lookups.{factor_name, proc_name}
use Rattle.scram_types.specs.Scripts.{ScriptParts}
use Rattle.scram_types.specs.Specification.{Parts}
use Rattle.fault_script.specs.Texts.{new_value_name, script_text}
use Rattle.fault_family.specs.declared.faults.Fault.{Fault}
use Rattle.fault_family.specs.Scripts.{script_of_faults}

-- The canonical text of a change of a factor.
unfoldable pub spelled_change : Parts → Change → List ℕ
spelled_change spec change =
    codes "{\"factor\":\"" ++ (factor_name spec change.factor.0 ++ (codes "\",\"frame\":" ++ (decimal change.frame
    ++ (codes ",\"value\":\"" ++ (new_value_name spec change ++ codes "\"}")))))

-- The canonical text of a halt.
unfoldable pub spelled_halt : Parts → HaltAt → List ℕ
spelled_halt spec halt =
    codes "{\"frame\":" ++ (decimal halt.frame ++ (codes ",\"processor\":\"" ++ (proc_name spec halt.proc.0
    ++ (codes "\",\"step\":" ++ (decimal halt.step ++ codes "}")))))

-- The canonical text of a restart.
unfoldable pub spelled_restart : Parts → RestartAt → List ℕ
spelled_restart spec restart =
    codes "{\"frame\":" ++ (decimal restart.frame ++ (codes ",\"processor\":\"" ++ (proc_name spec restart.proc.0 ++ codes "\"}")))

-- The remaining items of a list, separated by commas, and the list's closing bracket. If `later` is `true`, the first
-- item is preceded by a comma too.
abbrev pub listed_text : Bool → List (List ℕ) → List ℕ
listed_text later [] = codes "]"
listed_text later (text ∷ texts) = comma_if later ++ (text ++ listed_text true texts)

-- The end of a script's text: the restarts, if there are any, and the version, which is 1 without restarts and 2
-- otherwise.
abbrev pub version_text : Parts → List RestartAt → List ℕ
version_text spec [] = codes ",\"scram\":1}"
version_text spec (restart ∷ restarts) =
    codes ",\"restarts\":[" ++ (listed_text false (map (spelled_restart spec) (restart ∷ restarts)) ++ codes ",\"scram\":2}")

-- The canonical text of a script, spelled member by member.
abbrev pub spelled_script : Parts → ScriptParts → List ℕ
spelled_script spec script =
    codes "{\"changes\":[" ++ (listed_text false (map (spelled_change spec) script.changes)
    ++ (codes ",\"frames\":" ++ (decimal script.frames
    ++ (codes ",\"halts\":[" ++ (listed_text false (map (spelled_halt spec) script.halts) ++ version_text spec script.restarts)))))

-- The line of the script with the given faults: its canonical text and a line feed.
abbrev pub faults_line : Parts → List Fault → List ℕ
faults_line spec faults = script_text spec (script_of_faults spec faults) ++ codes "\n"

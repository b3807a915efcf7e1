-- The answers of forms that read files of scripts.
use Rattle.std.specs.Prelude.{◌≡◌, ℕ, List, [], Ok, Err}
use Rattle.scram_types.specs.declared.limits.TheConstants.{MAX_SCRIPT_BYTES}
use Rattle.scram_types.specs.Scripts.{ScriptParts}
use Rattle.scram_types.specs.Specification.{Parts}
use Rattle.scram_doc.specs.declared.fault.DocFault.{DocFault}
use Rattle.fault_script.specs.declared.rule.TheConstants as script_rule
use Rattle.fault_script.specs.Fits.{Fits}
use Rattle.fault_script.specs.Reading.{script_of}
use Rattle.form_base.specs.declared.status.TheConstants.{BROKEN_SCRIPT}
use Rattle.form_base.specs.Answers.{Answer, AnswersDocument, AnswersFile}
use Rattle.form_base.specs.mission_files.Lines.{script_line}

-- The bytes encode the script `script`, which fits the specification.
pub record SaysScript (spec : Parts) (script : ScriptParts) (bytes : List ℕ) : Type 0 where
  pub is : script_of spec bytes ≡ Ok script
  pub fits : Fits spec script

-- The bytes are not a script for the specification, and `refusal` has the status and the line of their fault.
pub record BreaksScript (spec : Parts) (refusal : ℕ × List ℕ) (bytes : List ℕ) : Type 0 where
  pub fault : DocFault
  pub is : script_of spec bytes ≡ Err fault
  pub line : refusal ≡ (BROKEN_SCRIPT, script_line fault)

-- The status and the line with which a script of too many bytes is refused.
abbrev pub long_script : ℕ × List ℕ
long_script = (BROKEN_SCRIPT, script_line (record { rule = script_rule.TOO_LONG; path = [] }))

-- The answer if `name` is the name of a script's file: the answer `Then` to the script in the file, or a report that
-- the file was not read, is too long or breaks a rule.
abbrev pub AsksScript : Parts → List ℕ → (ScriptParts → Answer) → Answer
AsksScript spec name Then = AnswersFile MAX_SCRIPT_BYTES long_script name (AnswersDocument (SaysScript spec) (BreaksScript spec) Then)

-- The answer to a script's file. If the file breaks a rule, the answer explains the rule.
use Rattle.std.specs.Prelude.{◌≡◌, ℕ, List, [], ◌++◌, None, Some}
use Rattle.scram_types.specs.declared.limits.TheConstants.{MAX_SCRIPT_BYTES}
use Rattle.scram_types.specs.Scripts.{ScriptParts}
use Rattle.scram_types.specs.Specification.{Parts}
use Rattle.scram_doc.specs.declared.fault.DocFault.{DocFault}
use Rattle.scram_doc.specs.Documents.{document}
use Rattle.fault_script.specs.declared.rule.TheConstants as rule
use Rattle.form_base.specs.Answers.{Answer, AnswersDocument, AnswersFile}
use Rattle.form_base.specs.mission_files.Documents.{BreaksScript, SaysScript, long_script}
use Rattle.form_base.specs.mission_files.Lines.{script_line}
use Rattle.document_explanations.specs.Explanations.{explanation}
use Rattle.document_explanations.specs.declared.rules.DocumentKind.TheVariants.{Script}

-- The explanation of a script's fault. Its lines follow the first line of the refusal.
abbrev pub script_explanation : Parts → DocFault → List ℕ → List ℕ
script_explanation spec fault bytes = explanation Script (Some spec) fault.rule fault.path (document bytes)

-- The first line of the refusal for a script's fault, followed by the explanation of the fault.
abbrev pub explained_script_text : Parts → DocFault → List ℕ → List ℕ
explained_script_text spec fault bytes = script_line fault ++ script_explanation spec fault bytes

-- The bytes are not a script for the specification, and `refusal` has the status and the lines for their fault.
pub record BreaksExplainedScript (spec : Parts) (refusal : ℕ × List ℕ) (bytes : List ℕ) : Type 0 where
  pub first : ℕ × List ℕ
  pub breaks : BreaksScript spec first bytes
  pub text : refusal ≡ (first.0, first.1 ++ script_explanation spec breaks.fault bytes)

-- The status and the lines with which a script of too many bytes is refused.
abbrev pub long_explained_script : ℕ × List ℕ
long_explained_script = (long_script.0, long_script.1 ++ explanation Script None rule.TOO_LONG [] None)

-- The answer if `name` is the name of a script's file. It is the answer `Then` to the script in the file, or the
-- refusal of a file that was not read, is too long or breaks a rule. A broken rule is explained.
abbrev pub AsksExplainedScript : Parts → List ℕ → (ScriptParts → Answer) → Answer
AsksExplainedScript spec name Then =
    AnswersFile MAX_SCRIPT_BYTES long_explained_script name (AnswersDocument (SaysScript spec) (BreaksExplainedScript spec) Then)

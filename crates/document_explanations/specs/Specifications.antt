-- The answer to a specification's file. If the file breaks a rule, the answer explains the rule.
use Rattle.std.specs.Prelude.{◌≡◌, ℕ, List, [], ◌++◌, None}
use Rattle.scram_types.specs.declared.limits.TheConstants.{MAX_SPECIFICATION_BYTES}
use Rattle.scram_types.specs.Specification.{Parts}
use Rattle.scram_doc.specs.declared.fault.DocFault.{DocFault}
use Rattle.scram_doc.specs.Documents.{document}
use Rattle.spec_reading.specs.declared.fault.SpecFault.{SpecFault}
use Rattle.spec_reading.specs.declared.rule.TheConstants as rule
use Rattle.form_base.specs.Answers.{Answer, AnswersDocument, AnswersFile}
use Rattle.form_base.specs.Lines.{specification_line}
use Rattle.form_base.specs.Specifications.{BreaksSpecification, SaysSpecification, long_specification}
use Rattle.document_explanations.specs.Explanations.{explanation}
use Rattle.document_explanations.specs.declared.rules.DocumentKind.TheVariants.{Specification}

-- The explanation of a specification's fault. Its lines follow the first line of the refusal.
abbrev pub specification_explanation : DocFault → List ℕ → List ℕ
specification_explanation fault bytes = explanation Specification None fault.rule fault.path (document bytes)

-- The first line of the refusal for a specification's fault, followed by the explanation of the fault.
abbrev pub explained_specification_text : SpecFault → List ℕ → List ℕ
explained_specification_text fault bytes =
    specification_line fault ++ explanation Specification None fault.rule fault.path (document bytes)

-- The bytes are not a specification, and `refusal` has the status and the lines for their fault.
pub record BreaksExplainedSpecification (refusal : ℕ × List ℕ) (bytes : List ℕ) : Type 0 where
  pub first : ℕ × List ℕ
  pub breaks : BreaksSpecification first bytes
  pub text : refusal ≡ (first.0, first.1 ++ specification_explanation breaks.fault bytes)

-- The status and the lines with which a specification of too many bytes is refused.
abbrev pub long_explained_specification : ℕ × List ℕ
long_explained_specification = (long_specification.0, long_specification.1 ++ explanation Specification None rule.TOO_LONG [] None)

-- The answer if `name` is the name of a specification's file. It is the answer `Then` to the specification in the
-- file, or the refusal of a file that was not read, is too long or breaks a rule. A broken rule is explained.
abbrev pub AsksExplainedSpecification : List ℕ → (Parts → Answer) → Answer
AsksExplainedSpecification name Then =
    AnswersFile MAX_SPECIFICATION_BYTES long_explained_specification name (AnswersDocument SaysSpecification BreaksExplainedSpecification Then)

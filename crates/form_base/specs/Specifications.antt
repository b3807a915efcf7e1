-- Specifications in files, and the answers to them.
use Rattle.std.specs.Prelude.{◌≡◌, ℕ, List, [], Result, Ok, Err}
use Rattle.scram_types.specs.declared.ids.AppId.{AppId}
use Rattle.scram_types.specs.declared.limits.TheConstants.{MAX_SPECIFICATION_BYTES}
use Rattle.scram_types.specs.declared.specification.AppSpec.{AppSpec}
use Rattle.scram_types.specs.Specification.{IsSpec, Parts}
use Rattle.scram_doc.specs.declared.fault.DocFault.{DocFault}
use Rattle.spec_reading.specs.declared.fault.SpecFault.{SpecFault}
use Rattle.spec_reading.specs.declared.rule.TheConstants as rule
use Rattle.spec_reading.specs.Answers.{CycleAmong, NamedAmong}
use Rattle.spec_reading.specs.Documents.{spec_of, unranked_of}
use Rattle.spec_reading.specs.Writable.{IsWritable}
use Rattle.form_base.specs.declared.status.TheConstants.{BROKEN_SPECIFICATION}
use Rattle.form_base.specs.Answers.{Answer, AnswersDocument, AnswersFile}
use Rattle.form_base.specs.Lines.{specification_line}

-- The bytes encode the specification `spec`. The specification satisfies its invariant, and also has the properties
-- that it must have to be written as a document.
pub record SaysSpecification (spec : Parts) (bytes : List ℕ) : Type 0 where
  pub is : spec_of bytes ≡ Ok spec
  pub sound : IsSpec spec
  pub writable : IsWritable spec

-- The fault `fault` of a specification document, with the names `cycle` of the applications in a cycle of needs.
abbrev pub showing : List (List ℕ) → DocFault → SpecFault
showing cycle fault = record { rule = fault.rule; path = fault.path; cycle = record { items = [] }; names = record { items = cycle } }

-- The names are the names of the applications in a cycle of the needs that were read. The list is empty if the needs
-- have no cycle or were not read.
abbrev pub NamesCycle : Result (List AppSpec) DocFault → List (List ℕ) → Type 0
NamesCycle unranked names = (cycle : List AppId) × CycleAmong unranked cycle × NamedAmong unranked cycle names

-- The refusal of bytes that do not encode a specification. It shows the fault, and the names of the applications in a
-- cycle of needs if there is one.
pub record BreaksSpecification (refusal : ℕ × List ℕ) (bytes : List ℕ) : Type 0 where
  pub fault : DocFault
  pub is : spec_of bytes ≡ Err fault
  pub cycle : List (List ℕ)
  pub shows : NamesCycle (unranked_of bytes) cycle
  pub line : refusal ≡ (BROKEN_SPECIFICATION, specification_line (showing cycle fault))

-- The answer to a specification's file that is too long.
abbrev pub long_specification : ℕ × List ℕ
long_specification = (BROKEN_SPECIFICATION, specification_line (showing [] (record { rule = rule.TOO_LONG; path = [] })))

-- The answer if `name` is the name of a specification's file: the answer `Then` to the specification in the file, or
-- a report that the file was not read, is too long or breaks a rule.
abbrev pub AsksSpecification : List ℕ → (Parts → Answer) → Answer
AsksSpecification name Then = AnswersFile MAX_SPECIFICATION_BYTES long_specification name (AnswersDocument SaysSpecification BreaksSpecification Then)

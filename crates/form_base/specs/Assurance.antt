-- Assurances, which are facts about the reads and the text of an answer with status 0.
use Rattle.std.specs.Prelude.{◌≡◌, ℕ, List, ◌∷◌}
use Rattle.scram_io.specs.Outside.{FilesState, Grew, History}
use Rattle.scram_types.specs.Specification.{Parts}
use Rattle.form_base.specs.declared.status.TheConstants.{ANSWERED}
use Rattle.form_base.specs.Answers.{Answer}
use Rattle.form_base.specs.Specifications.{SaysSpecification}

-- The assurance `Assures` holds for the reads and the text of every answer by `Answers` with status 0.
abbrev pub IsAssuring : Answer → (History → List ℕ → Type 0) → Type 0
IsAssuring Answers Assures = (before after : FilesState) (reads : History) (text : List ℕ) → Answers before after reads ANSWERED text → Assures reads text

-- The assurance holds for the reads made between two states of the files and for a text for which `Shown` holds.
pub record Assured (Assures : History → List ℕ → Type 0) (before after : FilesState) (Shown : List ℕ → Type 0) : Type 0 where
  pub reads : History
  pub text : List ℕ
  pub grew : Grew before after reads
  pub assures : Assures reads text
  pub shown : Shown text

-- The file `name` was read first, its bytes encode a value, and the assurance holds for this value, the later reads
-- and the text.
pub record OfDocument {T : Type 0} (Says : T → List ℕ → Type 0) (name : List ℕ) (Assures : T → History → List ℕ → Type 0)
    (reads : History) (text : List ℕ) : Type 0 where
  pub bytes : List ℕ
  pub rest : History
  pub read : reads ≡ (name, bytes) ∷ rest
  pub value : T
  pub says : Says value bytes
  pub assured : Assures value rest text

-- The file `name` was read first, its bytes encode a specification, and the assurance holds for this specification,
-- the later reads and the text.
abbrev pub OfSpecification : List ℕ → (Parts → History → List ℕ → Type 0) → History → List ℕ → Type 0
OfSpecification name Assures reads text = OfDocument SaysSpecification name Assures reads text

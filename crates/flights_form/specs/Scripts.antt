-- A file of scripts, one on each line.
use Rattle.std.specs.Prelude.{◌≡◌, ℕ, List, [], ◌∷◌, if◌then◌else◌}
use Rattle.trace_text.specs.Pieces.{is_filled, pieces_of}
use Rattle.form_base.specs.Answers.{Answer, AnswersDocument, AnswersFile}
use Rattle.form_base.specs.mission_files.Documents.{long_script}
use Rattle.flights_form.specs.declared.limits.TheConstants.{MAX_SCRIPTS_BYTES}

-- The pieces without the last piece if the last piece is empty, and all pieces otherwise.
abbrev pub without_empty_last : List (List ℕ) → List (List ℕ)
without_empty_last [] = []
without_empty_last (piece ∷ []) = if is_filled piece then piece ∷ [] else []
without_empty_last (piece ∷ next ∷ pieces) = piece ∷ without_empty_last (next ∷ pieces)

-- The lines of a file. Each line ends before a line feed or at the end of the file. The text after the last line feed
-- is a line only if it is not empty.
abbrev pub lines_of : List ℕ → List (List ℕ)
lines_of bytes = without_empty_last (pieces_of 10 bytes)

-- The bytes are the file of scripts `scripts`. Any bytes are a file of scripts.
abbrev pub SaysScripts : List ℕ → List ℕ → Type 0
SaysScripts scripts bytes = scripts ≡ bytes

-- No bytes break a rule, since files of scripts have no rules. A file can still have too many bytes.
abbrev pub BreaksNothing : ℕ × List ℕ → List ℕ → Type 0
BreaksNothing refusal bytes = ⊥

-- The answer if `name` is the name of a file of scripts: the answer `Then` to the file's bytes, or a report that the
-- file was not read or is too long.
abbrev pub AsksScripts : List ℕ → (List ℕ → Answer) → Answer
AsksScripts name Then = AnswersFile MAX_SCRIPTS_BYTES long_script name (AnswersDocument SaysScripts BreaksNothing Then)

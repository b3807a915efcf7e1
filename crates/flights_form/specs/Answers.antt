-- The answers of the form `flights`.
use Rattle.std.specs.Prelude.{◌≡◌, ℕ, ◌+◌, List, [], ◌∷◌, ◌++◌}
use Rattle.scram_types.specs.Specification.{Parts}
use Rattle.coverage_check.specs.Acceptance.{first_refusal}
use Rattle.form_base.specs.declared.status.TheConstants.{ANSWERED}
use Rattle.form_base.specs.Acceptance.{acceptance_refusal}
use Rattle.form_base.specs.Answers.{Answer, WithoutFiles}
use Rattle.form_base.specs.Specifications.{AsksSpecification}
use Rattle.form_base.specs.mission_files.Missions.{UnlessRefused}
use Rattle.flights_form.specs.declared.outcomes.Outcome.{Outcome}
use Rattle.flights_form.specs.declared.outcomes.Outcome.TheVariants.{Flown, Refused}
use Rattle.flights_form.specs.Lines.{flown_line, refused_start, totals_line}
use Rattle.flights_form.specs.Outcomes.{AreOutcomes}
use Rattle.flights_form.specs.Scripts.{AsksScripts, lines_of}
use Rattle.flights_form.specs.Totals.{totals_of}

-- The line that is printed for the outcome of line `k`.
abbrev pub outcome_line : Parts → ℕ → Outcome → List ℕ
outcome_line spec k (Flown facts) = flown_line spec k facts
outcome_line spec k (Refused line) = refused_start k ++ line

-- The lines that are printed for the outcomes of consecutive lines, the first of which is line `k`.
abbrev pub outcome_lines : Parts → ℕ → List Outcome → List ℕ
outcome_lines spec k [] = []
outcome_lines spec k (outcome ∷ outcomes) = outcome_line spec k outcome ++ outcome_lines spec (k + 1) outcomes

-- The text for all lines, which has a line for each outcome and a line of totals.
abbrev pub flights_text : Parts → List Outcome → List ℕ
flights_text spec outcomes = outcome_lines spec 0 outcomes ++ totals_line (totals_of outcomes)

-- The text is `flights_text` for the outcomes of the lines of a file of scripts with the bytes `scripts`.
pub record IsFlightsText (spec : Parts) (scripts text : List ℕ) : Type 0 where
  pub outcomes : List Outcome
  pub answers : AreOutcomes spec (lines_of scripts) outcomes
  pub whole : text ≡ flights_text spec outcomes

-- The status is 0, and the text is `flights_text` for the outcomes of the lines of a file of scripts with the bytes
-- `scripts`.
abbrev pub GivesFlights : Parts → List ℕ → ℕ → List ℕ → Type 0
GivesFlights spec scripts status text = (status ≡ ANSWERED) × IsFlightsText spec scripts text

-- The answer after a specification and a file of scripts have been read.
abbrev pub ScriptsAnswers : Parts → List ℕ → ℕ → List ℕ → Type 0
ScriptsAnswers spec scripts = UnlessRefused (acceptance_refusal spec (first_refusal spec)) (GivesFlights spec scripts)

-- The answer if the words are `flights`, the name of a specification's file and the name of a file of scripts.
abbrev pub FlightsAnswers : List ℕ → List ℕ → Answer
FlightsAnswers specification scripts =
    AsksSpecification specification (λ (spec : Parts). AsksScripts scripts (λ (bytes : List ℕ). WithoutFiles (ScriptsAnswers spec bytes)))

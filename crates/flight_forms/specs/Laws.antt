-- The law that relates the outcome of a line to the answer of `run`.
use Rattle.std.specs.Prelude.{◌≡◌, ◌⊎◌, ◌<◌, ℕ, List, length, None}
use Rattle.scram_types.specs.Specification.{Parts}
use Rattle.scram_types.specs.declared.rows.Report.{Report}
use Rattle.scram_types.specs.declared.rows.Row.{Row}
use Rattle.scram_types.specs.declared.limits.TheConstants.{MAX_SCRIPT_BYTES}
use Rattle.scram_io.specs.Outside.{FilesState, History}
use Rattle.coverage_check.specs.Acceptance.{first_refusal}
use Rattle.trace_text.specs.Text.{text_of}
use Rattle.form_base.specs.declared.status.TheConstants.{ANSWERED, BROKEN_SCRIPT, UNASSUMED_SCRIPT}
use Rattle.form_base.specs.Answers.{AnswersDocument}
use Rattle.flight_forms.specs.declared.runs.FlightText.TheVariants.{Trace}
use Rattle.form_base.specs.mission_files.Answers.{ScriptAnswers}
use Rattle.form_base.specs.mission_files.Documents.{BreaksScript, SaysScript, long_script}
use Rattle.flight_forms.specs.Texts.{flight_text}
use Rattle.flights_form.specs.declared.facts.FlightFacts.{FlightFacts}
use Rattle.flights_form.specs.declared.outcomes.Outcome.{Outcome}
use Rattle.flights_form.specs.declared.outcomes.Outcome.TheVariants.{Flown, Refused}
use Rattle.flights_form.specs.Facts.{facts_of}
use Rattle.flights_form.specs.Outcomes.{outcome_of}

-- The text is the trace of some rows and reports, and `facts` are the facts of a flight with these rows and reports.
pub record SumsUp (spec : Parts) (text : List ℕ) (facts : FlightFacts) : Type 0 where
  pub rows : List Row
  pub reports : List Report
  pub trace : text ≡ text_of spec rows reports
  pub facts_are : facts ≡ facts_of spec rows reports

-- The outcome of a line agrees with a status and a text. If the line was flown, the status is 0 and the text is a
-- trace with the facts of the outcome. Otherwise the status and the text are the refusal of a script.
abbrev pub IsSummed : Parts → ℕ → List ℕ → Outcome → Type 0
IsSummed spec status text (Flown facts) = (status ≡ ANSWERED) × SumsUp spec text facts
IsSummed spec status text (Refused line) = ((status ≡ BROKEN_SCRIPT) ⊎ (status ≡ UNASSUMED_SCRIPT)) × (text ≡ line)

-- If the specification is accepted, the outcome of a line agrees with the answer of `run` to a script with the same
-- bytes. If there are too many bytes for a script, the line is refused with the text with which `run` refuses the
-- script.
pub record LinesAreRuns : Type 0 where
  pub fitting : (spec : Parts) → first_refusal spec ≡ None → (bytes : List ℕ) (before after : FilesState) (reads : History) (status : ℕ) (text : List ℕ)
      → AnswersDocument (SaysScript spec) (BreaksScript spec) (ScriptAnswers (flight_text Trace) spec) bytes before after reads status text
      → IsSummed spec status text (outcome_of spec bytes)
  pub longer : (spec : Parts) (bytes : List ℕ) → MAX_SCRIPT_BYTES < length bytes → outcome_of spec bytes ≡ Refused (long_script).1

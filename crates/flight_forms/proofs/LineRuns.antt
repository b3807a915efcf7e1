-- The outcome of a line agrees with the answer of `run` to the bytes of the line.
use Rattle.std.proofs.Common.{◌≡◌, ◌<◌, ℕ, List, length, refl, sym, ap, inl, inr}
use Rattle.std.specs.Prelude.{Option, Some, None}
use Rattle.std.proofs.lemmas.Bool.{lt-leb}
use Rattle.scram_types.specs.Scripts.{ScriptParts}
use Rattle.scram_types.specs.Specification.{Parts}
use Rattle.scram_types.specs.declared.limits.TheConstants.{MAX_SCRIPT_BYTES}
use Rattle.scram_io.specs.Outside.{FilesState, History}
use Rattle.fault_script.specs.declared.assumption.Outside.{Outside}
use Rattle.fault_script.specs.Assumption.{first_outside}
use Rattle.frame_model.specs.Flights.{reports_of, rows_of}
use Rattle.coverage_check.specs.Acceptance.{first_refusal}
use Rattle.coverage_check.specs.Missions.{mission_of}
use Rattle.form_base.specs.Answers.{AnswersDocument}
use Rattle.flight_forms.specs.declared.runs.FlightText.TheVariants.{Trace}
use Rattle.form_base.specs.mission_files.Answers.{ScriptAnswers, GivesFlight}
use Rattle.form_base.specs.mission_files.Documents.{BreaksScript, SaysScript, long_script}
use Rattle.form_base.specs.mission_files.Missions.{UnlessRefused, mission_refusal, script_refusal}
use Rattle.flight_forms.specs.Texts.{flight_text}
use Rattle.flights_form.specs.declared.outcomes.Outcome.TheVariants.{Refused}
use Rattle.flight_forms.specs.Laws.{IsSummed, LinesAreRuns}
use Rattle.flights_form.specs.Outcomes.{outcome_of, outcome_within}

within_summed : (spec : Parts) (script : ScriptParts) (outside : Option Outside) (status : ℕ) (text : List ℕ)
    → UnlessRefused (script_refusal outside) (GivesFlight (flight_text Trace) (mission_of spec script)) status text → IsSummed spec status text (outcome_within spec script outside)
within_summed spec script (Some outside) status text gives = (inr (sym (ap (λ (a : ℕ × List ℕ). a.0) gives)), sym (ap (λ (a : ℕ × List ℕ). a.1) gives))
within_summed spec script None status text gives =
    (sym (ap (λ (a : ℕ × List ℕ). a.0) gives), record { rows = rows_of spec script; reports = reports_of spec script; trace = sym (ap (λ (a : ℕ × List ℕ). a.1) gives); facts_are = refl })

script_summed : (spec : Parts) (script : ScriptParts) → first_refusal spec ≡ None → (status : ℕ) (text : List ℕ)
    → UnlessRefused (mission_refusal spec script) (GivesFlight (flight_text Trace) (mission_of spec script)) status text
    → IsSummed spec status text (outcome_within spec script (first_outside spec script))
script_summed spec script accepted status text answers = within_summed spec script (first_outside spec script) status text (rw accepted at answers)

summed : (spec : Parts) → first_refusal spec ≡ None → (bytes : List ℕ) (before after : FilesState) (reads : History) (status : ℕ) (text : List ℕ)
    → AnswersDocument (SaysScript spec) (BreaksScript spec) (ScriptAnswers (flight_text Trace) spec) bytes before after reads status text
    → IsSummed spec status text (outcome_of spec bytes)
summed spec accepted bytes before after reads status text (inl is) = rw (is.1.is) (script_summed spec is.0 accepted status text is.2.1)
summed spec accepted bytes before after reads status text (inr is) =
    rw (is.1.is) (inl (ap (λ (a : ℕ × List ℕ). a.0) is.1.line), ap (λ (a : ℕ × List ℕ). a.1) is.1.line)

longer : (spec : Parts) (bytes : List ℕ) → MAX_SCRIPT_BYTES < length bytes → outcome_of spec bytes ≡ Refused (long_script).1
longer spec bytes more = rw (lt-leb (length bytes) MAX_SCRIPT_BYTES more) refl

pub are_runs : LinesAreRuns
are_runs = record { fitting = summed; longer = longer }

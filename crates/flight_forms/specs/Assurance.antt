-- The assurances of status 0 for the forms that fly missions.
use Rattle.std.specs.Prelude.{◌≡◌, ℕ, List, []}
use Rattle.scram_types.specs.Scripts.{ScriptParts}
use Rattle.scram_types.specs.Specification.{Parts}
use Rattle.scram_io.specs.Outside.{History}
use Rattle.mission_gen.specs.Changes.{generated_script}
use Rattle.mission_gen.specs.Specifications.{mission_text}
use Rattle.coverage_check.specs.Missions.{IsMission, MissionParts, mission_of}
use Rattle.frame_model.specs.Flights.{reports_of, rows_of}
use Rattle.trace_props.specs.Properties.{HoldsAll}
use Rattle.fail_stop.specs.ScriptFlights.{flight_of}
use Rattle.schedule_replay.specs.Replaying.{IsWholeSchedule}
use Rattle.form_base.specs.Assurance.{IsAssuring, OfDocument, OfSpecification}
use Rattle.form_base.specs.Answers.{WithoutFiles}
use Rattle.flight_forms.specs.declared.runs.FlightText.TheVariants.{Trace, Summary}
use Rattle.flight_forms.specs.Answers.{FlyAnswers, GenAnswers, IsGenerated, ReplayAnswers, RunAnswers, WatchAnswers}
use Rattle.form_base.specs.mission_files.Documents.{SaysScript}
use Rattle.flight_forms.specs.Documents.{SaysSchedule}
use Rattle.flight_forms.specs.Texts.{flight_text, watch_text}
use Rattle.bank_words.specs.declared.events.Event.{Event}

-- The specification is accepted, and the script keeps to the failure assumption of the specification. The text is the
-- value of `told` for their mission. The properties of reconfigurations hold for the rows and reports of the
-- mission's one-thread flight.
pub record IsAssured (told : MissionParts → List ℕ) (spec : Parts) (script : ScriptParts) (text : List ℕ) : Type 0 where
  pub mission : IsMission (mission_of spec script)
  pub whole : text ≡ told (mission_of spec script)
  pub holds : HoldsAll spec (rows_of spec script) (reports_of spec script)

-- If a form that prints the text `told` of a mission ends with status 0, the mission in the files `specification` and
-- `script` is assured, and no further file was read.
abbrev pub AssuresFlight : (MissionParts → List ℕ) → List ℕ → List ℕ → History → List ℕ → Type 0
AssuresFlight told specification script =
    OfSpecification specification (λ (spec : Parts). OfDocument (SaysScript spec) script (λ (script : ScriptParts) (reads : History) (text : List ℕ).
    (reads ≡ []) × IsAssured told spec script text))

-- If `run` ends with status 0, the mission in the files of the specification and the script is assured, and no
-- further file was read.
abbrev pub AssuresRun : List ℕ → List ℕ → History → List ℕ → Type 0
AssuresRun = AssuresFlight (flight_text Trace)

-- If `watch` ends with status 0, the mission in the files of the specification and the script is assured, and no
-- further file was read.
abbrev pub AssuresWatch : List ℕ → List ℕ → History → List ℕ → Type 0
AssuresWatch = AssuresFlight watch_text

-- If `replay` ends with status 0, the mission in the files `specification` and `script` is assured, and the file
-- `schedule` holds a schedule at whose end the flight is over. No further file was read.
abbrev pub AssuresReplay : List ℕ → List ℕ → List ℕ → History → List ℕ → Type 0
AssuresReplay specification script schedule =
    OfSpecification specification (λ (spec : Parts). OfDocument (SaysScript spec) script (λ (script : ScriptParts).
    OfDocument (SaysSchedule spec) schedule (λ (list : List Event) (reads : History) (text : List ℕ).
    (reads ≡ []) × IsWholeSchedule (flight_of spec script) list × IsAssured (flight_text Trace) spec script text)))

-- If `gen` ends with status 0, the text has the specification and the script of the mission generated from `number`,
-- and no file was read.
pub record AssuresGen (number : ℕ) (reads : History) (text : List ℕ) : Type 0 where
  pub none : reads ≡ []
  pub spec : Parts
  pub generated : IsGenerated number spec
  pub is : text ≡ mission_text spec (generated_script number)

-- If `fly` ends with status 0, the mission generated from `number` is assured, and no file was read.
pub record AssuresFly (number : ℕ) (reads : History) (text : List ℕ) : Type 0 where
  pub none : reads ≡ []
  pub spec : Parts
  pub generated : IsGenerated number spec
  pub assured : IsAssured (flight_text (Summary number)) spec (generated_script number) text

-- If `run`, `watch`, `replay`, `gen` or `fly` answers with status 0, the assurance of its form holds.
pub record FlightsAreAssured : Type 0 where
  pub run : (specification script : List ℕ) → IsAssuring (RunAnswers specification script) (AssuresRun specification script)
  pub watch : (specification script : List ℕ) → IsAssuring (WatchAnswers specification script) (AssuresWatch specification script)
  pub replay : (specification script schedule : List ℕ) → IsAssuring (ReplayAnswers specification script schedule) (AssuresReplay specification script schedule)
  pub gen : (number : ℕ) → IsAssuring (WithoutFiles (GenAnswers number)) (AssuresGen number)
  pub fly : (number : ℕ) → IsAssuring (WithoutFiles (FlyAnswers number)) (AssuresFly number)

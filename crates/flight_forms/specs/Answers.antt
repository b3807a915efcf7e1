-- The answers of the forms that fly missions.
use Rattle.std.specs.Prelude.{◌≡◌, ◌≢◌, ℕ, List, Result, Ok, Err}
use Rattle.scram_types.specs.declared.rows.Flown.{Flown}
use Rattle.scram_types.specs.Scripts.{ScriptParts}
use Rattle.scram_types.specs.Specification.{IsSpec, Parts}
use Rattle.fault_script.specs.Fits.{Fits}
use Rattle.spec_reading.specs.Documents.{spec_of}
use Rattle.mission_gen.specs.Changes.{generated_script}
use Rattle.mission_gen.specs.Specifications.{generated_text, mission_text}
use Rattle.coverage_check.specs.Missions.{mission_of}
use Rattle.schedule_replay.specs.declared.replays.ReplayError.{ReplayError}
use Rattle.schedule_replay.specs.declared.replays.ReplayError.TheVariants as replay_error
use Rattle.schedule_replay.specs.Refusals.{illegal_line, short_line}
use Rattle.schedule_replay.specs.Replaying.{AnswersReplay}
use Rattle.form_base.specs.declared.status.TheConstants.{ANSWERED, BROKEN_SCHEDULE, OUT_OF_MEMORY}
use Rattle.form_base.specs.Answers.{Answer, Gives, WithoutFiles}
use Rattle.form_base.specs.Refusals.{memory_line}
use Rattle.form_base.specs.Specifications.{AsksSpecification}
use Rattle.flight_forms.specs.declared.runs.FlightText.TheVariants.{Trace, Summary}
use Rattle.form_base.specs.mission_files.Answers.{FlightAnswers, GivesFlight}
use Rattle.form_base.specs.mission_files.Documents.{AsksScript}
use Rattle.flight_forms.specs.Documents.{AsksSchedule}
use Rattle.form_base.specs.mission_files.Missions.{UnlessRefused, mission_refusal}
use Rattle.flight_forms.specs.Texts.{flight_text, watch_text}
use Rattle.bank_words.specs.declared.events.Event.{Event}

-- The answer of `run`, given the names of the files of a specification and a script.
abbrev pub RunAnswers : List ℕ → List ℕ → Answer
RunAnswers = FlightAnswers (flight_text Trace)

-- The answer of `pair`, given the names of the files of a specification and a script. It is the answer of `run`, and
-- does not depend on the halt of a unit.
abbrev pub PairAnswers : List ℕ → List ℕ → Answer
PairAnswers = RunAnswers

-- The answer of `watch`, given the names of the files of a specification and a script.
abbrev pub WatchAnswers : List ℕ → List ℕ → Answer
WatchAnswers = FlightAnswers watch_text

-- The status and the line for an error of a replay.
abbrev pub replay_refusal : Parts → ReplayError → ℕ × List ℕ
replay_refusal spec (replay_error.Illegal index given next) = (BROKEN_SCHEDULE, illegal_line spec index given next)
replay_refusal spec (replay_error.Short events next) = (BROKEN_SCHEDULE, short_line spec events next)
replay_refusal spec replay_error.NoMemory = (OUT_OF_MEMORY, memory_line)

-- The status and the text of a replay, given its result. If the result is a flight, the text is the trace of the
-- mission's one-thread flight.
abbrev pub replay_answer : Parts → ScriptParts → Result Flown ReplayError → ℕ × List ℕ
replay_answer spec script (Ok flown) = (ANSWERED, flight_text Trace (mission_of spec script))
replay_answer spec script (Err error) = replay_refusal spec error

-- The status and the text are those of a replay by the events `list`. The replay did not run out of memory.
pub record IsReplayAnswer (spec : Parts) (script : ScriptParts) (list : List Event) (status : ℕ) (text : List ℕ) : Type 0 where
  pub flown : Result Flown ReplayError
  pub answers : AnswersReplay spec script list flown
  pub had_memory : flown ≢ Err replay_error.NoMemory
  pub gives : Gives (replay_answer spec script flown) status text

-- The answer of `replay` after all files have been read: the answer of a replay by `list`, or the refusal if the
-- specification and the script do not form a mission.
abbrev pub ListAnswers : Parts → ScriptParts → List Event → Answer
ListAnswers spec script list = WithoutFiles (UnlessRefused (mission_refusal spec script) (IsReplayAnswer spec script list))

-- The answer of `replay` after a specification and a script have been read.
abbrev pub ScheduleAnswers : List ℕ → Parts → ScriptParts → Answer
ScheduleAnswers schedule spec script = AsksSchedule spec schedule (ListAnswers spec script)

-- The answer of `replay`, given the names of the files of a specification, a script and a schedule.
abbrev pub ReplayAnswers : List ℕ → List ℕ → List ℕ → Answer
ReplayAnswers specification script schedule =
    AsksSpecification specification (λ (spec : Parts). AsksScript spec script (ScheduleAnswers schedule spec))

-- All generated missions have the specification `spec`, and the script generated from `number` fits this
-- specification.
pub record IsGenerated (number : ℕ) (spec : Parts) : Type 0 where
  pub reads : spec_of generated_text ≡ Ok spec
  pub sound : IsSpec spec
  pub fits : Fits spec (generated_script number)

-- The status and the text are the answer of `gen` to `number`. The status is 0, and the text has the specification
-- and the script of the mission generated from `number`.
pub record GenAnswers (number : ℕ) (status : ℕ) (text : List ℕ) : Type 0 where
  pub spec : Parts
  pub generated : IsGenerated number spec
  pub gives : Gives (ANSWERED, mission_text spec (generated_script number)) status text

-- The answer for the flight of the mission generated from a number: the mission's summary line, or a refusal.
abbrev pub SummaryAnswers : ℕ → Parts → ScriptParts → ℕ → List ℕ → Type 0
SummaryAnswers number spec script = UnlessRefused (mission_refusal spec script) (GivesFlight (flight_text (Summary number)) (mission_of spec script))

-- The status and the text are the answer of `fly` to `number`, which is the summary line of the mission generated
-- from `number`, or a refusal.
pub record FlyAnswers (number : ℕ) (status : ℕ) (text : List ℕ) : Type 0 where
  pub spec : Parts
  pub generated : IsGenerated number spec
  pub answers : SummaryAnswers number spec (generated_script number) status text

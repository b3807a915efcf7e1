-- The laws of the missions that the command flies.
use Rattle.std.specs.Prelude.{◌≡◌, ◌⊎◌, ℕ, ◌≤◌, List, [], ◌∷◌, length, Some, Ok, IsTrue, codes}
use Rattle.scram_types.specs.Scripts.{ScriptParts}
use Rattle.scram_types.specs.Specification.{IsSpec, Parts}
use Rattle.scram_io.specs.Outside.{FileMap, FilesState, SinkState, file_at}
use Rattle.fault_script.specs.Fits.{Fits}
use Rattle.fault_script.specs.Reading.{script_of}
use Rattle.spec_reading.specs.Documents.{spec_of}
use Rattle.coverage_check.specs.Missions.{IsMission, MissionParts}
use Rattle.frame_model.specs.Flights.{reports_of, rows_of}
use Rattle.trace_text.specs.Text.{text_of}
use Rattle.trace_text.specs.TraceReading.{trace_of}
use Rattle.form_base.specs.declared.status.TheConstants.{ANSWERED, OUT_OF_MEMORY}
use Rattle.flight_forms.specs.declared.runs.FlightText.TheVariants.{Trace}
use Rattle.form_base.specs.Refusals.{memory_line}
use Rattle.flight_forms.specs.Texts.{flight_text}
use Rattle.scram_cli.specs.Answers.{FormAnswers}
use Rattle.form_base.specs.Endings.{Completes, Ends, IsSent, WentOut}
use Rattle.scram_cli.specs.Forms.{files_of, form_of}

-- For every specification and every script that fits it, the text that is printed for their mission is read back as
-- the mission's rows and reports.
abbrev pub PrintedMissionsAreRead : Type 0
PrintedMissionsAreRead = (spec : Parts) (script : ScriptParts) → IsSpec spec → Fits spec script
    → trace_of spec (text_of spec (rows_of spec script) (reports_of spec script)) ≡ Ok (record { rows = rows_of spec script; reports = reports_of spec script })

-- Two files of a map hold a mission. The bytes of the first file encode the mission's specification, and the bytes of
-- the second file encode the mission's script.
pub record HoldsMission (map : FileMap) (specification_name script_name : List ℕ) (mission : MissionParts) : Type 0 where
  pub specification : List ℕ
  pub specification_file : file_at specification_name map ≡ Some specification
  pub is_specification : spec_of specification ≡ Ok mission.spec
  pub script : List ℕ
  pub script_file : file_at script_name map ≡ Some script
  pub is_script : script_of mission.spec script ≡ Ok mission.script
  pub sound : IsSpec mission.spec
  pub is_mission : IsMission mission

-- The sink is known to have room for the text, and also for the out-of-memory line.
pub record HasRoomFor (sink : SinkState) (text : List ℕ) : Type 0 where
  pub room : ℕ
  pub told : sink.surely ≡ Some room
  pub fits : length text ≤ room
  pub memory : length memory_line ≤ room

-- Either the status is 0 and the text was written, or the status is `OUT_OF_MEMORY` and the out-of-memory line was
-- written.
abbrev pub EndsAnswered : List ℕ → SinkState → SinkState → ℕ → Type 0
EndsAnswered text old new code = ((code ≡ ANSWERED) × WentOut old new text) ⊎ ((code ≡ OUT_OF_MEMORY) × WentOut old new memory_line)

-- The word `run`, followed by the names of the files of a specification and a script.
abbrev pub run_words : List ℕ → List ℕ → List (List ℕ)
run_words specification script = codes "run" ∷ specification ∷ script ∷ []

-- `run` is complete. Suppose that the files are steady and hold a mission, that the sink has room, and that the clauses
-- `answer` and `complete` of `scram` hold for the call. Then the call ends with status 0 and the whole trace of the
-- one-thread flight is written, or the allocator was out of memory.
abbrev pub MissionsAreAnswered : Type 0
MissionsAreAnswered = (specification script : List ℕ) (map : FileMap) (mission : MissionParts) (before after : FilesState) (old new : SinkState) (code : ℕ)
    → Ends (FormAnswers (form_of (run_words specification script))) (files_of (form_of (run_words specification script))) before after (IsSent old new code)
    → Completes (FormAnswers (form_of (run_words specification script))) (files_of (form_of (run_words specification script))) before after old new
    → before.known_map ≡ Some map → IsTrue before.steady → HoldsMission map specification script mission
    → HasRoomFor old (flight_text Trace mission) → EndsAnswered (flight_text Trace mission) old new code

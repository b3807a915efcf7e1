-- If a form that flies a mission answers with status 0, the flight is assured.
use Rattle.std.proofs.Common.{◌≡◌, ℕ, List, [], refl, sym}
use Rattle.std.specs.Prelude.{◌≢◌, Option, Some, None, Result, Ok, Err}
use Rattle.scram_types.specs.declared.rows.Flown.{Flown}
use Rattle.scram_types.specs.declared.limits.TheConstants.{MAX_SCRIPT_BYTES}
use Rattle.scram_types.specs.Scripts.{ScriptParts}
use Rattle.scram_types.specs.Specification.{IsSpec, Parts}
use Rattle.scram_io.specs.Outside.{History}
use Rattle.fault_script.specs.declared.assumption.Outside.{Outside}
use Rattle.fault_script.specs.Assumption.{first_outside}
use Rattle.fault_script.specs.Fits.{Fits}
use Rattle.mission_gen.specs.Changes.{generated_script}
use Rattle.mission_gen.specs.Specifications.{mission_text}
use Rattle.coverage_check.specs.declared.shown.Shown.{Shown}
use Rattle.coverage_check.specs.Acceptance.{Accepts, first_refusal}
use Rattle.coverage_check.specs.Missions.{IsMission, MissionParts, mission_of}
use Rattle.coverage_check.proofs.Accepting.{accepts_iff_unrefused}
use Rattle.coverage_check.proofs.Flights.{is_mission}
use Rattle.trace_props.specs.Missions.{ReconfigurationsAreAssured}
use Rattle.fail_stop.specs.ScriptFlights.{flight_of}
use Rattle.schedule_replay.specs.declared.limits.TheConstants.{MAX_SCHEDULE_BYTES}
use Rattle.schedule_replay.specs.declared.replays.ReplayError.{ReplayError}
use Rattle.schedule_replay.specs.declared.replays.ReplayError.TheVariants as replay_error
use Rattle.schedule_replay.specs.Replaying.{AnswersReplay, IsWholeSchedule}
use Rattle.form_base.specs.declared.status.TheConstants.{ANSWERED}
use Rattle.form_base.specs.Answers.{Gives, WithoutFiles}
use Rattle.form_base.specs.Assurance.{IsAssuring, OfDocument}
use Rattle.form_base.proofs.Assuring.{document_assures, not_zero, specification_assures, text_of_gives}
use Rattle.flight_forms.specs.declared.runs.FlightText.TheVariants.{Summary, Trace}
use Rattle.form_base.specs.mission_files.Answers.{FlightAnswers, ScriptAnswers}
use Rattle.flight_forms.specs.Answers.{FlyAnswers, GenAnswers, IsReplayAnswer, ListAnswers, ReplayAnswers, ScheduleAnswers, replay_answer}
use Rattle.flight_forms.specs.Assurance.{AssuresFlight, AssuresFly, AssuresGen, AssuresReplay, FlightsAreAssured, IsAssured}
use Rattle.form_base.specs.mission_files.Documents.{BreaksScript, SaysScript, long_script}
use Rattle.flight_forms.specs.Documents.{BreaksSchedule, SaysSchedule, long_schedule}
use Rattle.form_base.specs.mission_files.Missions.{UnlessRefused, mission_refusal, refusal_by, script_refusal}
use Rattle.flight_forms.specs.Texts.{flight_text, watch_text}
use Rattle.bank_words.specs.declared.events.Event.{Event}

-- If the status is 0, the specification and the script form a mission, and the status and the text are the answer
-- `A`.

script_zero : (spec : Parts) (script : ScriptParts) (A : ℕ → List ℕ → Type 0) (outside : Option Outside) → Accepts spec → Fits spec script → first_outside spec script ≡ outside
    → (text : List ℕ) → UnlessRefused (script_refusal outside) A ANSWERED text → IsMission (mission_of spec script) × A ANSWERED text
script_zero spec script A (Some outside) accepts fits is text gives = not_zero 7 _ text gives
script_zero spec script A None accepts fits is text answers = (is_mission spec script accepts fits is, answers)

mission_zero_by : (spec : Parts) (script : ScriptParts) (A : ℕ → List ℕ → Type 0) (shown : Option Shown) → IsSpec spec → Fits spec script → first_refusal spec ≡ shown
    → (text : List ℕ) → UnlessRefused (refusal_by spec script shown) A ANSWERED text → IsMission (mission_of spec script) × A ANSWERED text
mission_zero_by spec script A (Some shown) sound fits is text gives = not_zero 5 _ text gives
mission_zero_by spec script A None sound fits is text answers =
    script_zero spec script A (first_outside spec script) ((accepts_iff_unrefused spec sound).accepted is) fits refl text answers

mission_zero : (spec : Parts) (script : ScriptParts) (A : ℕ → List ℕ → Type 0) → IsSpec spec → Fits spec script
    → (text : List ℕ) → UnlessRefused (mission_refusal spec script) A ANSWERED text → IsMission (mission_of spec script) × A ANSWERED text
mission_zero spec script A sound fits text answers = mission_zero_by spec script A (first_refusal spec) sound fits refl text answers

assured_by : (law : ReconfigurationsAreAssured) (told : MissionParts → List ℕ) (spec : Parts) (script : ScriptParts) → IsSpec spec → IsMission (mission_of spec script)
    → (text : List ℕ) → Gives (ANSWERED, told (mission_of spec script)) ANSWERED text → IsAssured told spec script text
assured_by law told spec script sound mission text gives =
    record { mission = mission; whole = text_of_gives (told (mission_of spec script)) text gives; holds = law spec script sound mission }

flight_assures : (law : ReconfigurationsAreAssured) (told : MissionParts → List ℕ) (spec : Parts) (script : ScriptParts) → IsSpec spec → Fits spec script
    → (text : List ℕ) → UnlessRefused (mission_refusal spec script) (Gives (ANSWERED, told (mission_of spec script))) ANSWERED text → IsAssured told spec script text
flight_assures law told spec script sound fits text answers =
    let flown = mission_zero spec script (Gives (ANSWERED, told (mission_of spec script))) sound fits text answers in
    assured_by law told spec script sound flown.0 text flown.1

no_broken_script : (spec : Parts) (text bytes : List ℕ) → BreaksScript spec (ANSWERED, text) bytes → ANSWERED ≢ ANSWERED
no_broken_script spec text bytes breaks = not_zero 6 _ text (sym breaks.line)

files_assure : ReconfigurationsAreAssured → (told : MissionParts → List ℕ) (specification script : List ℕ) → IsAssuring (FlightAnswers told specification script) (AssuresFlight told specification script)
files_assure law told specification script before after reads text is = specification_assures specification _ _
    (λ spec sound. document_assures (SaysScript spec) (BreaksScript spec) MAX_SCRIPT_BYTES 6 (long_script).1 script (ScriptAnswers told spec) _
    (λ script bytes says before after reads text is. (is.0, flight_assures law told spec script sound says.fits text is.1))
    (no_broken_script spec))
    before after reads text is

-- If the status of a replay is 0, the list is a whole schedule of the flight, and the text is the trace of the
-- one-thread flight.

replayed_zero : (spec : Parts) (script : ScriptParts) (list : List Event) (flown : Result Flown ReplayError) (text : List ℕ) → AnswersReplay spec script list flown
    → Gives (replay_answer spec script flown) ANSWERED text → IsWholeSchedule (flight_of spec script) list × Gives (ANSWERED, flight_text Trace (mission_of spec script)) ANSWERED text
replayed_zero spec script list (Ok flown) text answers gives = (answers.0, gives)
replayed_zero spec script list (Err (replay_error.Illegal index given next)) text answers gives = not_zero 11 _ text gives
replayed_zero spec script list (Err (replay_error.Short events next)) text answers gives = not_zero 11 _ text gives
replayed_zero spec script list (Err replay_error.NoMemory) text answers gives = not_zero 8 _ text gives

list_assures : (law : ReconfigurationsAreAssured) (spec : Parts) (script : ScriptParts) (list : List Event) → IsSpec spec → Fits spec script
    → (text : List ℕ) → UnlessRefused (mission_refusal spec script) (IsReplayAnswer spec script list) ANSWERED text
    → IsWholeSchedule (flight_of spec script) list × IsAssured (flight_text Trace) spec script text
list_assures law spec script list sound fits text answers =
    let flown = mission_zero spec script (IsReplayAnswer spec script list) sound fits text answers in
    let told = replayed_zero spec script list flown.1.flown text flown.1.answers flown.1.gives in
    (told.0, assured_by law (flight_text Trace) spec script sound flown.0 text told.1)

no_broken_schedule : (spec : Parts) (text bytes : List ℕ) → BreaksSchedule spec (ANSWERED, text) bytes → ANSWERED ≢ ANSWERED
no_broken_schedule spec text bytes breaks = not_zero 11 _ text (sym breaks.line)

schedule_assures : (law : ReconfigurationsAreAssured) (schedule : List ℕ) (spec : Parts) (script : ScriptParts) → IsSpec spec → Fits spec script
    → IsAssuring (ScheduleAnswers schedule spec script) (OfDocument (SaysSchedule spec) schedule (λ (list : List Event) (reads : History) (text : List ℕ).
    (reads ≡ []) × IsWholeSchedule (flight_of spec script) list × IsAssured (flight_text Trace) spec script text))
schedule_assures law schedule spec script sound fits before after reads text is =
    document_assures (SaysSchedule spec) (BreaksSchedule spec) MAX_SCHEDULE_BYTES 11 (long_schedule).1 schedule (ListAnswers spec script)
    (λ (list : List Event) (reads : History) (text : List ℕ). (reads ≡ []) × IsWholeSchedule (flight_of spec script) list × IsAssured (flight_text Trace) spec script text)
    (λ list bytes says before after reads text is. let flown = list_assures law spec script list sound fits text is.1 in (is.0, flown.0, flown.1))
    (no_broken_schedule spec) before after reads text is

replay_assures : ReconfigurationsAreAssured → (specification script schedule : List ℕ)
    → IsAssuring (ReplayAnswers specification script schedule) (AssuresReplay specification script schedule)
replay_assures law specification script schedule before after reads text is = specification_assures specification _ _
    (λ spec sound. document_assures (SaysScript spec) (BreaksScript spec) MAX_SCRIPT_BYTES 6 (long_script).1 script (ScheduleAnswers schedule spec) _
    (λ script bytes says. schedule_assures law schedule spec script sound says.fits)
    (no_broken_script spec))
    before after reads text is

-- Lemmas on missions generated from a number.

gen_assures : (number : ℕ) → IsAssuring (WithoutFiles (GenAnswers number)) (AssuresGen number)
gen_assures number before after reads text is =
    record { none = is.0; spec = is.1.spec; generated = is.1.generated; is = text_of_gives (mission_text is.1.spec (generated_script number)) text is.1.gives }

fly_assures : ReconfigurationsAreAssured → (number : ℕ) → IsAssuring (WithoutFiles (FlyAnswers number)) (AssuresFly number)
fly_assures law number before after reads text is = record {
  none = is.0;
  spec = is.1.spec;
  generated = is.1.generated;
  assured = flight_assures law (flight_text (Summary number)) is.1.spec (generated_script number) is.1.generated.sound is.1.generated.fits text is.1.answers;
}

pub flights_assured : ReconfigurationsAreAssured → FlightsAreAssured
flights_assured law = record { run = files_assure law (flight_text Trace); watch = files_assure law watch_text; replay = replay_assures law; gen = gen_assures; fly = fly_assures law }

-- Lemmas that derive the answer to a replay from its mission and its events.
use Rattle.std.proofs.Common.{◌≡◌, ◌∙◌, ℕ, List, sym, ap, arith, subst}
use Rattle.std.specs.Prelude.{Result, Ok, Err}
use Rattle.scram_types.specs.Scripts.{ScriptParts}
use Rattle.scram_types.specs.Specification.{Parts}
use Rattle.coverage_check.specs.Missions.{MissionParts, mission_of}
use Rattle.form_base.specs.declared.refusals.Refusal.{Refusal}
use Rattle.scram_io.specs.Outside.{SinkState}
use Rattle.schedule_replay.specs.Replaying.{AnswersReplay}
use Rattle.schedule_replay.specs.declared.replays.ReplayError.{ReplayError}
use Rattle.schedule_replay.specs.declared.replays.ReplayError.TheVariants as replay_error
use Rattle.form_base.specs.Answers.{Gives}
use Rattle.form_base.specs.Endings.{IsTaken, PreparesWithoutFiles, PrintsAnswer}
use Rattle.form_base.proofs.Endings.{given_prints, memory_prints, tells_other}
use Rattle.form_base.specs.Refusals.{answer_of}
use Rattle.flight_forms.specs.declared.replays.Replay.{Replay}
use Rattle.flight_forms.specs.Answers.{IsReplayAnswer, replay_refusal}
use Rattle.form_base.proofs.mission_files.MissionReading.{refused_settles, unless_none}
use Rattle.form_base.specs.mission_files.Missions.{UnlessRefused, mission_refusal}
use Rattle.flight_forms.specs.Replays.{MakesReplay, GivesReplay}
use Rattle.bank_words.specs.declared.events.Event.{Event}

replay_told : (spec : Parts) (script : ScriptParts) (list : List Event) (replay : Replay) (status : ℕ) (text : List ℕ) → replay.mission ≡ mission_of spec script → replay.list ≡ list
    → GivesReplay replay status text → IsReplayAnswer spec script list status text
replay_told spec script list replay status text mission_is list_is is =
    subst (λ (m : MissionParts). IsReplayAnswer m.spec m.script list status text) mission_is
    (subst (λ (l : List Event). IsReplayAnswer replay.mission.spec replay.mission.script l status text) list_is is)

-- If the result satisfies `MakesReplay`, the answer to the replay is prepared.
pub replay_settles : (spec : Parts) (script : ScriptParts) (list : List Event) (result : Result Replay Refusal) → MakesReplay spec script list result
    → PreparesWithoutFiles (UnlessRefused (mission_refusal spec script) (IsReplayAnswer spec script list)) GivesReplay result
replay_settles spec script list (Ok replay) makes = λ status text is.
    unless_none (mission_refusal spec script) (IsReplayAnswer spec script list) status text makes.2 (replay_told spec script list replay status text makes.0 makes.1 is)
replay_settles spec script list (Err refusal) makes =
    (refused_settles (mission_refusal spec script) (IsReplayAnswer spec script list) (answer_of refusal) makes.0, makes.1)

-- If a replay ends with an error and the refusal for this error was printed, the answer to the replay was printed.
pub replay_refused : (spec : Parts) (script : ScriptParts) (list : List Event) (error : ReplayError) (answer : ℕ × List ℕ) (old new : SinkState) (code : ℕ)
    → AnswersReplay spec script list (Err error) → answer ≡ replay_refusal spec error → IsTaken old new code answer.0 answer.1 → PrintsAnswer (IsReplayAnswer spec script list) old new code
replay_refused spec script list (replay_error.Illegal index given next) answer old new code answers is taken =
    let status = ap (λ (a : ℕ × List ℕ). a.0) is in
    tells_other (Gives answer) (IsReplayAnswer spec script list) old new code
    (λ s t gives. record { flown = Err (replay_error.Illegal index given next); answers = answers; had_memory = λ same. cc; gives = sym is ∙ gives })
    (given_prints answer.0 answer.1 old new code (λ same. absurd (omega (arith, same, status))) (λ same. absurd (omega (arith, same, status))) taken)
replay_refused spec script list (replay_error.Short events next) answer old new code answers is taken =
    let status = ap (λ (a : ℕ × List ℕ). a.0) is in
    tells_other (Gives answer) (IsReplayAnswer spec script list) old new code
    (λ s t gives. record { flown = Err (replay_error.Short events next); answers = answers; had_memory = λ same. cc; gives = sym is ∙ gives })
    (given_prints answer.0 answer.1 old new code (λ same. absurd (omega (arith, same, status))) (λ same. absurd (omega (arith, same, status))) taken)
replay_refused spec script list replay_error.NoMemory answer old new code answers is taken =
    memory_prints (IsReplayAnswer spec script list) old new code (subst (λ (a : ℕ × List ℕ). IsTaken old new code a.0 a.1) is taken)

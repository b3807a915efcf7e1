use Rattle.std.proofs.Common.{◌∙◌, List, ap, subst}
use Rattle.std.specs.Prelude.{Result}
use Rattle.scram_types.specs.Scripts.{ScriptParts}
use Rattle.scram_types.specs.Specification.{Parts}
use Rattle.scram_types.specs.declared.rows.Flown.{Flown}
use Rattle.bank_words.specs.declared.events.Event.{Event}
use Rattle.schedule_replay.specs.Replaying.{AnswersReplay}
use Rattle.schedule_replay.specs.declared.replays.ReplayError.{ReplayError}
use Rattle.form_base.specs.Refusals.{answer_of}
use Rattle.flight_forms.specs.Answers.{replay_refusal}
use Rattle.flight_forms.proofs.MissionReading.{replay_refused}
use Rattle.flight_forms.proofs.replays.fly_replay.Goals as goal

pub returns-in-Err : goal.returns-in-Err
returns-in-Err g c =
    let mission = c.args.replayed.now.mission in
    let list = c.args.replayed.now.list in
    let by_spec = subst (λ (s : Parts). AnswersReplay s c.script.result.now c.items-list.result.now c.replay.result) c.spec-spec.ensures c.replay.ensures in
    let by_script = subst (λ (s : ScriptParts). AnswersReplay mission.spec s c.items-list.result.now c.replay.result) c.script.ensures by_spec in
    let by_list = subst (λ (l : List Event). AnswersReplay mission.spec mission.script l c.replay.result) c.items-list.ensures by_script in
    replay_refused mission.spec mission.script list c.in-Err.error (answer_of c.refusal_of.result) _ _ _
    (subst (λ (r : Result Flown ReplayError). AnswersReplay mission.spec mission.script list r) c.in-Err.is by_list)
    (c.refusal_of.ensures ∙ ap (λ (s : Parts). replay_refusal s c.in-Err.error) c.spec-spec.ensures) c.print_refusal.ensures

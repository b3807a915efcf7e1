use Rattle.std.proofs.Common.{[], ◌∷◌}
use Rattle.scram_types.specs.Specification.{Parts}
use Rattle.form_base.proofs.SpecReading.{specification_reads, specification_unread}
use Rattle.flight_forms.specs.Answers.{ScheduleAnswers}
use Rattle.form_base.specs.mission_files.Documents.{AsksScript}
use Rattle.flight_forms.specs.Replays.{GivesReplay}
use Rattle.flight_forms.proofs.replays.read_replay.Goals as goal

pub returns-in-Ok : goal.returns-in-Ok
returns-in-Ok g c =
    let named = c.args.named in
    specification_reads named.specification.now (named.script.now ∷ named.schedule.now ∷ []) (λ (spec : Parts). AsksScript spec named.script.now (ScheduleAnswers named.schedule.now spec)) GivesReplay
    c.in-Ok.spec _ _ _ c.read_scheduled.result c.in-Ok.ensures.loads c.load.ensures.steady c.read_scheduled.ensures

pub returns-in-Err : goal.returns-in-Err
returns-in-Err g c =
    let named = c.args.named in
    specification_unread named.specification.now (named.script.now ∷ named.schedule.now ∷ []) (λ (spec : Parts). AsksScript spec named.script.now (ScheduleAnswers named.schedule.now spec)) _ _
    c.in-Err.refusal c.in-Err.ensures.loads c.load.ensures.steady c.in-Err.ensures.unread

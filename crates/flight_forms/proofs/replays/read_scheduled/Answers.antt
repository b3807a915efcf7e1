use Rattle.std.proofs.Common.{[], ◌∷◌}
use Rattle.flight_forms.specs.Answers.{ScheduleAnswers}
use Rattle.flight_forms.specs.Replays.{GivesReplay}
use Rattle.form_base.proofs.mission_files.FileReading.{script_reads, script_unread}
use Rattle.flight_forms.proofs.replays.read_scheduled.Goals as goal

pub returns-in-Ok : goal.returns-in-Ok
returns-in-Ok g c =
    let named = c.args.named in
    script_reads c.args.spec named.script.now (named.schedule.now ∷ []) (ScheduleAnswers named.schedule.now c.args.spec) GivesReplay
    c.in-Ok.script _ _ _ c.read_list.result c.in-Ok.ensures.loads c.load.ensures.steady c.read_list.ensures

pub returns-in-Err : goal.returns-in-Err
returns-in-Err g c =
    let named = c.args.named in
    script_unread c.args.spec named.script.now (named.schedule.now ∷ []) (ScheduleAnswers named.schedule.now c.args.spec) _ _
    c.in-Err.refusal c.in-Err.ensures.loads c.load.ensures.steady c.in-Err.ensures.unread

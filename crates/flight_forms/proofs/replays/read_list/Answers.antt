use Rattle.std.proofs.Common.{[]}
use Rattle.form_base.proofs.Reading.{settled}
use Rattle.flight_forms.specs.Answers.{IsReplayAnswer, ListAnswers}
use Rattle.form_base.specs.mission_files.Missions.{UnlessRefused, mission_refusal}
use Rattle.flight_forms.specs.Replays.{GivesReplay}
use Rattle.flight_forms.proofs.FileReading.{schedule_reads, schedule_unread}
use Rattle.flight_forms.proofs.MissionReading.{replay_settles}
use Rattle.flight_forms.proofs.replays.read_list.Goals as goal

pub returns-in-Ok : goal.returns-in-Ok
returns-in-Ok g c =
    let spec = c.args.parts.0 in
    let script = c.args.parts.1 in
    let list = c.in-Ok.list in
    schedule_reads spec c.args.schedule.now [] (ListAnswers spec script) GivesReplay list _ _ _ c.make_replay.result c.in-Ok.ensures.loads c.load.ensures.steady
    (settled (UnlessRefused (mission_refusal spec script) (IsReplayAnswer spec script list)) GivesReplay _ c.make_replay.result (g.met.F.Files.steady_below _)
    (replay_settles spec script list c.make_replay.result c.make_replay.ensures))

pub returns-in-Err : goal.returns-in-Err
returns-in-Err g c =
    schedule_unread c.args.parts.0 c.args.schedule.now [] (ListAnswers c.args.parts.0 c.args.parts.1) _ _
    c.in-Err.refusal c.in-Err.ensures.loads c.load.ensures.steady c.in-Err.ensures.unread

use Rattle.std.proofs.Common.{[]}
use Rattle.form_base.proofs.Reading.{settled}
use Rattle.coverage_check.specs.Missions.{mission_of}
use Rattle.form_base.specs.mission_files.Answers.{ScriptAnswers, GivesFlight}
use Rattle.form_base.specs.mission_files.Missions.{UnlessRefused, mission_refusal}
use Rattle.form_base.proofs.mission_files.FileReading.{script_reads, script_unread}
use Rattle.form_base.proofs.mission_files.MissionReading.{mission_settles}
use Rattle.form_base.proofs.mission_files.missions.read_script.Goals as goal

pub returns-in-Ok : goal.returns-in-Ok
returns-in-Ok g c = λ text.
    let spec = c.args.spec in
    let script = c.in-Ok.script in
    script_reads spec c.args.script.now [] (ScriptAnswers text spec) (GivesFlight text) script _ _ _ c.make_mission.result c.in-Ok.ensures.loads c.load.ensures.steady
    (settled (UnlessRefused (mission_refusal spec script) (GivesFlight text (mission_of spec script))) (GivesFlight text) _ c.make_mission.result (g.met.F.Files.steady_below _)
    (mission_settles spec script (GivesFlight text) c.make_mission.result c.make_mission.ensures))

pub returns-in-Err : goal.returns-in-Err
returns-in-Err g c = λ text.
    script_unread c.args.spec c.args.script.now [] (ScriptAnswers text c.args.spec) _ _ c.in-Err.refusal c.in-Err.ensures.loads c.load.ensures.steady c.in-Err.ensures.unread

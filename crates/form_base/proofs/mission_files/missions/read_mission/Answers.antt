use Rattle.std.proofs.Common.{[], ◌∷◌}
use Rattle.scram_types.specs.Specification.{Parts}
use Rattle.form_base.proofs.SpecReading.{specification_reads, specification_unread}
use Rattle.form_base.specs.mission_files.Answers.{ScriptAnswers, GivesFlight}
use Rattle.form_base.specs.mission_files.Documents.{AsksScript}
use Rattle.form_base.proofs.mission_files.missions.read_mission.Goals as goal

pub returns-in-Ok : goal.returns-in-Ok
returns-in-Ok g c = λ text.
    let script = c.args.named.script.now in
    specification_reads c.args.named.specification.now (script ∷ []) (λ (spec : Parts). AsksScript spec script (ScriptAnswers text spec)) (GivesFlight text)
    c.in-Ok.spec _ _ _ c.read_script.result c.in-Ok.ensures.loads c.load.ensures.steady (c.read_script.ensures text)

pub returns-in-Err : goal.returns-in-Err
returns-in-Err g c = λ text.
    let script = c.args.named.script.now in
    specification_unread c.args.named.specification.now (script ∷ []) (λ (spec : Parts). AsksScript spec script (ScriptAnswers text spec)) _ _
    c.in-Err.refusal c.in-Err.ensures.loads c.load.ensures.steady c.in-Err.ensures.unread

use Rattle.std.proofs.Common.{inl, inr}
use Rattle.coverage_check.specs.Acceptance.{first_refusal}
use Rattle.form_base.specs.Refusals.{answer_of}
use Rattle.form_base.proofs.mission_files.MissionReading.{mission_refused}
use Rattle.form_base.proofs.mission_files.missions.make_mission.Goals as goal

pub returns-in-Err : goal.returns-in-Err
returns-in-Err c =
    let spec = c.args.spec in
    (elim c.in-Err.ensures.refused [ inl is ↦ inl (mission_refused spec c.args.script (first_refusal spec) (answer_of c.in-Err.refusal) is) | inr none ↦ inr none ], c.in-Err.ensures.known)

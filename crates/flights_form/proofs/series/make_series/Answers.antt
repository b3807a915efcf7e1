use Rattle.coverage_check.specs.Acceptance.{first_refusal}
use Rattle.form_base.specs.Acceptance.{acceptance_refusal}
use Rattle.form_base.specs.Refusals.{answer_of}
use Rattle.form_base.proofs.mission_files.MissionReading.{refused_settles}
use Rattle.flights_form.specs.Answers.{GivesFlights}
use Rattle.flights_form.proofs.series.make_series.Goals as goal

pub returns-in-Err-clause-prepares : goal.returns-in-Err-clause-prepares
returns-in-Err-clause-prepares c =
    let spec = c.args.spec in
    (refused_settles (acceptance_refusal spec (first_refusal spec)) (GivesFlights spec c.args.scripts) (answer_of c.in-Err.refusal) c.in-Err.ensures.refused, c.in-Err.ensures.known)

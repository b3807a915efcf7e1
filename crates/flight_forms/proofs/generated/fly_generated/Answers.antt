use Rattle.std.proofs.Common.{◌≡◌, subst}
use Rattle.scram_types.specs.Specification.{IsSpec}
use Rattle.mission_gen.specs.Changes.{generated_script}
use Rattle.form_base.proofs.Endings.{tells_other}
use Rattle.flight_forms.specs.Answers.{FlyAnswers, SummaryAnswers}
use Rattle.flight_forms.proofs.generated.fly_generated.Goals as goal

pub returns-in-Ok : goal.returns-in-Ok
returns-in-Ok g c =
    let same : c.in-Ok.script ≡ generated_script c.args.number = c.in-Ok.ensures.script in
    tells_other (SummaryAnswers c.args.number c.in-Ok.spec c.in-Ok.script) (FlyAnswers c.args.number) _ _ _
    (λ status text is. record {
      spec = c.in-Ok.spec;
      generated = record { reads = c.in-Ok.ensures.text; sound = subst IsSpec c.spec.view_is c.spec.invariant; fits = rw same at c.in-Ok.ensures.fits };
      answers = rw same at is;
    })
    c.fly_parts.ensures

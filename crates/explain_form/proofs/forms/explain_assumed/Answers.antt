use Rattle.explain_form.proofs.Settling.{assumed_settles, outside_settles}
use Rattle.explain_form.proofs.forms.explain_assumed.Goals as goal

pub returns-in-Ok-clause-prepares : goal.returns-in-Ok-clause-prepares
returns-in-Ok-clause-prepares c = assumed_settles c.explain_accepted.result c.args.spec.now c.args.script.now c.in-Ok.ensures.within c.explain_accepted.ensures.prepares

pub returns-in-Err-clause-prepares : goal.returns-in-Err-clause-prepares
returns-in-Err-clause-prepares c =
    outside_settles c.explain_outside.result c.args.spec.now c.args.script.now c.in-Err.outside c.in-Err.ensures.outside c.explain_outside.ensures.prepares

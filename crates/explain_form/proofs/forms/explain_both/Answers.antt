use Rattle.std.proofs.Common.{◌∙◌, subst}
use Rattle.coverage_check.specs.Answers.{IsRefusal}
use Rattle.explain_form.proofs.Settling.{both_accepted_settles, both_refused_settles}
use Rattle.explain_form.proofs.forms.explain_both.Goals as goal

pub returns-in-Ok-clause-prepares : goal.returns-in-Ok-clause-prepares
returns-in-Ok-clause-prepares c =
    both_accepted_settles c.explain_assumed-explanation.result c.args.spec c.spec.result.now c.args.script (c.spec.ensures ∙ c.in-Ok.ensures.accepted) c.in-Ok.ensures.holds
    c.explain_assumed-explanation.ensures.prepares

pub returns-in-Err-NotAccepted-clause-prepares : goal.returns-in-Err-NotAccepted-clause-prepares
returns-in-Err-NotAccepted-clause-prepares c =
    both_refused_settles c.explain_refused.result c.args.spec c.in-Err-NotAccepted.spec c.args.script c.in-Err-NotAccepted.shown (subst (IsRefusal c.args.spec) c.in-Err-NotAccepted.field-0-is c.in-Err-NotAccepted.ensures.refused)
    c.explain_refused.ensures.prepares

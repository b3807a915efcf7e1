use Rattle.std.proofs.Common.{rules}
use Rattle.explain_form.proofs.forms.explain_refused.Goals as goal

pub returns-in-Ok-clause-prepares : goal.returns-in-Ok-clause-prepares
returns-in-Ok-clause-prepares c = search rules

use Rattle.std.proofs.Common.{rules}
use Rattle.explain_form.proofs.explanations.make_refused.Goals as goal

pub returns : goal.returns
returns c = search rules

use Rattle.std.proofs.Common.{rules}
use Rattle.explain_form.proofs.outsides.make_outside.Goals as goal

pub returns : goal.returns
returns c = search rules

use Rattle.explain_form.proofs.Windows.{windows_are_exact}
use Rattle.explain_form.proofs.laws.windows_are_exact.Goals as goal

pub returns : goal.returns
returns c = windows_are_exact

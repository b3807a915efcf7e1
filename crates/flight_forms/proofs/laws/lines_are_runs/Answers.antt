use Rattle.flight_forms.proofs.LineRuns.{are_runs}
use Rattle.flight_forms.proofs.laws.lines_are_runs.Goals as goal

pub returns : goal.returns
returns c = are_runs

use Rattle.std.proofs.Common.{rules}
use Rattle.flight_forms.proofs.summaries.duration.Goals as goal

pub returns-in-None : goal.returns-in-None
returns-in-None c = search rules

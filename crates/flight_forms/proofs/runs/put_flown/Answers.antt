use Rattle.std.proofs.Common.{rules}
use Rattle.flight_forms.proofs.runs.put_flown.Goals as goal

pub returns-in-Trace : goal.returns-in-Trace
returns-in-Trace c = search rules

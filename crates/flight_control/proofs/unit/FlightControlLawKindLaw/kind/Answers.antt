use Rattle.std.proofs.Common.{rules}
use Rattle.flight_control.proofs.unit.FlightControlLawKindLaw.kind.Goals as goal

pub returns : goal.returns
returns c = search rules

use Rattle.std.proofs.Common.{rules}
use Rattle.autopilot.proofs.unit.AutopilotLawKindLaw.kind.Goals as goal

pub returns : goal.returns
returns c = search rules

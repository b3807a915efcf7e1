use Rattle.std.proofs.Common.{rules}
use Rattle.power_monitor.proofs.unit.PowerMonitorLawKindLaw.kind.Goals as goal

pub returns : goal.returns
returns c = search rules

use Rattle.std.proofs.Common.{rules}
use Rattle.power_monitor.proofs.unit.PowerMonitorLawKindLaw.area_after.Goals as goal

pub returns : goal.returns
returns c = search rules

use Rattle.std.proofs.Common.{rules}
use Rattle.more_apps.proofs.data_link.DatalinkLawKindLaw.area_after.Goals as goal

pub returns : goal.returns
returns c = search rules

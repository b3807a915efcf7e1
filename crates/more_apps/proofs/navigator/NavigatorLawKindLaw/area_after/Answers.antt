use Rattle.std.proofs.Common.{rules}
use Rattle.more_apps.proofs.navigator.NavigatorLawKindLaw.area_after.Goals as goal

pub returns : goal.returns
returns c = search rules

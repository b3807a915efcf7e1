use Rattle.std.proofs.Common.{rules}
use Rattle.more_apps.proofs.navigator.NavigatorLawKindLaw.kind.Goals as goal

pub returns : goal.returns
returns c = search rules

use Rattle.std.proofs.Common.{rules}
use Rattle.fail_stop.proofs.drafts.area_kept.Goals as goal

pub returns-in-Some-get : goal.returns-in-Some-get
returns-in-Some-get c = search rules

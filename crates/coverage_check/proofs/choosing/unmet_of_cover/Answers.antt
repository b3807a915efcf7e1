use Rattle.std.proofs.Common.{rules}
use Rattle.coverage_check.proofs.choosing.unmet_of_cover.Goals as goal

pub returns-in-CanRun : goal.returns-in-CanRun
returns-in-CanRun c = search rules

use Rattle.coverage_check.proofs.Keeping.{missions_keep_scope}
use Rattle.coverage_check.proofs.missions.missions_keep_scope.Goals as goal

pub returns : goal.returns
returns c = missions_keep_scope

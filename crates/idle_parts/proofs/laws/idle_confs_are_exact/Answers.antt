use Rattle.idle_parts.proofs.Told.{idle_confs_are_exact}
use Rattle.idle_parts.proofs.laws.idle_confs_are_exact.Goals as goal

pub returns : goal.returns
returns c = idle_confs_are_exact

use Rattle.std.proofs.Common.{rules}
use Rattle.frame_model.proofs.readings.read_row.Goals as goal

pub returns-else-runs-clause-reading : goal.returns-else-runs-clause-reading
returns-else-runs-clause-reading c = search rules

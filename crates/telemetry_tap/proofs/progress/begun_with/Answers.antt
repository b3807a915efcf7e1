use Rattle.std.proofs.Common.{rules}
use Rattle.telemetry_tap.proofs.progress.begun_with.Goals as goal

pub returns-in-Leaving-clause-same : goal.returns-in-Leaving-clause-same
returns-in-Leaving-clause-same c = search rules

use Rattle.std.proofs.Common.{rules}
use Rattle.telemetry_tap.proofs.watches.PublisherWatch.row.Goals as goal

pub returns-clause-taken : goal.returns-clause-taken
returns-clause-taken c = search rules

use Rattle.std.proofs.Common.{rules}
use Rattle.telemetry_tap.proofs.summaries.summary_decode.Goals as goal

pub returns : goal.returns
returns c = search rules

use Rattle.telemetry_tap.proofs.Telling.{summaries_tell_rows as law}
use Rattle.telemetry_tap.proofs.laws.summaries_tell_rows.Goals as goal

pub returns : goal.returns
returns c = law c.beginnings_are_read.ensures

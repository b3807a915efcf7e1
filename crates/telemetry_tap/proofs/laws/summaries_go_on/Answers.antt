use Rattle.telemetry_tap.proofs.Begun.{summaries_go_on as law}
use Rattle.telemetry_tap.proofs.laws.summaries_go_on.Goals as goal

pub returns : goal.returns
returns c = law c.beginnings_are_read.ensures

use Rattle.telemetry_tap.proofs.Decoding.{summaries_come_back as law}
use Rattle.telemetry_tap.proofs.laws.summaries_come_back.Goals as goal

pub returns : goal.returns
returns c = law

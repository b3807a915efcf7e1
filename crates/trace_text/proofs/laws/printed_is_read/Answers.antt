use Rattle.trace_text.proofs.FlightsBack.{printed_is_read as law}
use Rattle.trace_text.proofs.laws.printed_is_read.Goals as goal

pub returns : goal.returns
returns c = law

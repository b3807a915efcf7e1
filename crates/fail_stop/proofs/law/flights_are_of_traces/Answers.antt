use Rattle.fail_stop.proofs.ScriptBorder.{of_trace}
use Rattle.fail_stop.proofs.law.flights_are_of_traces.Goals as goal

pub returns : goal.returns
returns c = of_trace

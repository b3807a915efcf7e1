use Rattle.trace_props.proofs.Theorems as theorems
use Rattle.trace_props.proofs.missions.phases_are_past_in_time.Goals as goal

pub returns : goal.returns
returns c = theorems.phases_are_past_in_time c.know.ensures

use Rattle.trace_props.proofs.Theorems as theorems
use Rattle.trace_props.proofs.missions.reconfigurations_are_assured.Goals as goal

pub returns : goal.returns
returns c = theorems.all_hold c.know.ensures

use Rattle.trace_props.proofs.Theorems as theorems
use Rattle.trace_props.proofs.missions.targets_are_chosen.Goals as goal

pub returns : goal.returns
returns c = theorems.targets_are_chosen c.know.ensures

use Rattle.trace_props.proofs.Theorems as theorems
use Rattle.trace_props.proofs.missions.calm_settles.Goals as goal

pub returns : goal.returns
returns c = theorems.calm_settles c.know.ensures

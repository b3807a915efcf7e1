use Rattle.trace_props.proofs.Theorems as theorems
use Rattle.trace_props.proofs.missions.halting_ends_in_time.Goals as goal

pub returns : goal.returns
returns c = theorems.halting_ends_in_time c.know.ensures

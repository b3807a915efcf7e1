use Rattle.trace_props.proofs.Theorems as theorems
use Rattle.trace_props.proofs.missions.further_changes_are_few.Goals as goal

pub returns : goal.returns
returns c = theorems.further_changes_are_few c.know.ensures

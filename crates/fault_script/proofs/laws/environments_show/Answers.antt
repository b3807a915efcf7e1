use Rattle.fault_script.proofs.Showing.{environments_show as law}
use Rattle.fault_script.proofs.laws.environments_show.Goals as goal

pub returns : goal.returns
returns c = law

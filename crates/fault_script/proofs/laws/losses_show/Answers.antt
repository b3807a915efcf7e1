use Rattle.fault_script.proofs.Losses.{losses_show as law}
use Rattle.fault_script.proofs.laws.losses_show.Goals as goal

pub returns : goal.returns
returns c = law

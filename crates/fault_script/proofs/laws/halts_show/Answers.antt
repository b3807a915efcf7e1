use Rattle.fault_script.proofs.Losses.{halts_show as law}
use Rattle.fault_script.proofs.laws.halts_show.Goals as goal

pub returns : goal.returns
returns c = law

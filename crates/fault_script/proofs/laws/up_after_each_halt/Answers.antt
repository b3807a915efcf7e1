use Rattle.fault_script.proofs.Halts.{up_after_each_halt as law}
use Rattle.fault_script.proofs.laws.up_after_each_halt.Goals as goal

pub returns : goal.returns
returns c = law

use Rattle.fault_script.proofs.HaltFrames.{too_many_down_shows_a_halt as law}
use Rattle.fault_script.proofs.laws.too_many_down_shows_a_halt.Goals as goal

pub returns : goal.returns
returns c = law

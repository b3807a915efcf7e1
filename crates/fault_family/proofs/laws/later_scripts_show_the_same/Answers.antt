use Rattle.fault_family.proofs.Shifting.{later_scripts_show_the_same}
use Rattle.fault_family.proofs.laws.later_scripts_show_the_same.Goals as goal

pub returns : goal.returns
returns c = later_scripts_show_the_same

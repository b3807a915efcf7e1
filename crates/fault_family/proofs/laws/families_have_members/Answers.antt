use Rattle.fault_family.proofs.Members.{families_have_members}
use Rattle.fault_family.proofs.laws.families_have_members.Goals as goal

pub returns : goal.returns
returns c = families_have_members

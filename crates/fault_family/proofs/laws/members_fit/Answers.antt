use Rattle.fault_family.proofs.MemberScripts.{members_fit}
use Rattle.fault_family.proofs.laws.members_fit.Goals as goal

pub returns : goal.returns
returns c = members_fit

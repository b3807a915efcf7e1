use Rattle.choice_table.proofs.Members.{sets_by_members}
use Rattle.choice_table.proofs.laws.sets_are_up_by_members.Goals as goal

pub returns : goal.returns
returns c = sets_by_members

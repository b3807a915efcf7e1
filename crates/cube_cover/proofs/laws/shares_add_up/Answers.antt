use Rattle.cube_cover.proofs.RuleShares.{shares_sum}
use Rattle.cube_cover.proofs.laws.shares_add_up.Goals as goal

pub returns : goal.returns
returns c = shares_sum

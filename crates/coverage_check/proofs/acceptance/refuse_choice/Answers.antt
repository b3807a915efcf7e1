use Rattle.std.proofs.Common.{rules}
use Rattle.coverage_check.proofs.acceptance.refuse_choice.Goals as goal

pub returns : goal.returns
returns c = search rules

use Rattle.std.proofs.Common.{rules}
use Rattle.mission_gen.proofs.walks.add_other_turn.Goals as goal

pub returns-then-turns_both : goal.returns-then-turns_both
returns-then-turns_both c = search rules

use Rattle.std.proofs.Common.{arith}
use Rattle.std.proofs.lemmas.Grind.{common_steps}
use Rattle.scram_types.proofs.names.is_name_text.Goals as goal

pub returns-then-is_name_end : goal.returns-then-is_name_end
returns-then-is_name_end c = grind (arith, common_steps)

use Rattle.std.proofs.Common.{arith}
use Rattle.std.proofs.lemmas.Grind.{common_steps}
use Rattle.scram_types.proofs.specification.Spec.bound.Goals as goal

pub returns-then-bound-to : goal.returns-then-bound-to
returns-then-bound-to c = grind (arith, common_steps)

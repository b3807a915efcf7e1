use Rattle.std.proofs.Common.{refl}
use Rattle.mission_gen.specs.Specifications.{generated_text}
use Rattle.mission_gen.proofs.texts.generated.Goals as goal

pub returns : goal.returns
unfolding generated_text
returns c = refl

use Rattle.std.proofs.Common.{refl}
use Rattle.mission_gen.specs.Specifications.{uav_text}
use Rattle.mission_gen.proofs.texts.uav.Goals as goal

pub returns : goal.returns
unfolding uav_text
returns c = refl

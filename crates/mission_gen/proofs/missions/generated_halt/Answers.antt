use Rattle.std.proofs.Common.{rules}
use Rattle.mission_gen.proofs.missions.generated_halt.Goals as goal

pub returns : goal.returns
returns c = search rules

use Rattle.scram_cli.proofs.Completeness.{missions_are_answered as law}
use Rattle.scram_cli.proofs.laws.missions_are_answered.Goals as goal

pub returns : goal.returns
returns c = law

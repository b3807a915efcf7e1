use Rattle.scram_cli.proofs.ShownReports.{printed_missions_are_read as law}
use Rattle.scram_cli.proofs.laws.printed_missions_are_read.Goals as goal

pub returns : goal.returns
returns c = law

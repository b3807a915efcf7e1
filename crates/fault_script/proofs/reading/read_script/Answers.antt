use Rattle.std.proofs.Common.{rules}
use Rattle.fault_script.proofs.reading.read_script.Goals as goal

pub returns-clause-script : goal.returns-clause-script
returns-clause-script c = search rules

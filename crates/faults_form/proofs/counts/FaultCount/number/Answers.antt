use Rattle.std.proofs.Common.{rules}
use Rattle.faults_form.proofs.counts.FaultCount.number.Goals as goal

pub returns-in-Three-clause-value : goal.returns-in-Three-clause-value
returns-in-Three-clause-value c = search rules

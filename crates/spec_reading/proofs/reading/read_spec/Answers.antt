use Rattle.std.proofs.Common.{rules, arith}
use Rattle.std.proofs.lemmas.Grind.{common_steps}
use Rattle.spec_reading.proofs.reading.read_spec.Goals as goal

pub returns-clause-cycle : goal.returns-clause-cycle
returns-clause-cycle c = search rules

pub returns-in_err-document-clause-value : goal.returns-in_err-document-clause-value
returns-in_err-document-clause-value c = search rules

pub returns-clause-value : goal.returns-clause-value
returns-clause-value c = grind (arith, common_steps)

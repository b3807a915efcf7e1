use Rattle.std.proofs.Common.{rules}
use Rattle.scram_cli.proofs.program.run_program.Goals as goal

pub returns-clause-answer : goal.returns-clause-answer
returns-clause-answer c = search rules

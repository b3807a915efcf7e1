use Rattle.std.proofs.Common.{rules}
use Rattle.test_schedules.proofs.choices.Chooser.begin.Goals as goal

pub returns-in-KernelFirst-clause-begin : goal.returns-in-KernelFirst-clause-begin
returns-in-KernelFirst-clause-begin c = search rules

use Rattle.std.proofs.Common.{rules}
use Rattle.fault_script.proofs.assumption.brings_too_many_down.Goals as goal

pub returns-then-frame-script : goal.returns-then-frame-script
returns-then-frame-script c = search rules

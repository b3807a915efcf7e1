use Rattle.std.proofs.Common.{◌≡◌, drop}
use Rattle.fault_script.specs.Times.{value_after}
use Rattle.fault_script.proofs.times.value_at.Given as goal

abbrev pub invariant-loop-change : goal.invariant-loop-change
invariant-loop-change l =
    value_after (drop l.change-index l.change-items) l.factor l.frame l.value ≡ value_after l.script.changes l.factor l.frame 0

use Rattle.std.proofs.Common.{◌≡◌, drop}
use Rattle.std.specs.Prelude.{filter_map}
use Rattle.fault_script.specs.Times.{value_after}
use Rattle.fault_family.specs.Scripts.{change_of_fault}
use Rattle.fault_family.proofs.scripts.value_at.Given as goal

abbrev pub invariant-loop-fault : goal.invariant-loop-fault
invariant-loop-fault l =
    value_after (filter_map change_of_fault (drop l.fault-index l.faults)) l.factor.0 l.frame l.value ≡ value_after (filter_map change_of_fault l.faults) l.factor.0 l.frame 0

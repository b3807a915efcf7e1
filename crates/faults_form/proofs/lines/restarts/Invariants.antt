use Rattle.std.proofs.Common.{◌≡◌, drop, length}
use Rattle.std.specs.Prelude.{filter_map}
use Rattle.fault_family.specs.Scripts.{restart_of_fault}
use Rattle.faults_form.proofs.lines.restarts.Given as goal

abbrev pub invariant-loop-fault : goal.invariant-loop-fault
invariant-loop-fault l = length (filter_map restart_of_fault (drop l.fault-index l.faults)) ≡ length (filter_map restart_of_fault l.faults)

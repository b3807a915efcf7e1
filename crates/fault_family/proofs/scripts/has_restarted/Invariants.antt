use Rattle.std.proofs.Common.{◌≡◌, drop}
use Rattle.std.specs.Prelude.{filter_map}
use Rattle.std.specs.List.{list_any}
use Rattle.fault_script.specs.Times.{is_restart_between}
use Rattle.fault_family.specs.Scripts.{restart_of_fault}
use Rattle.fault_family.proofs.scripts.has_restarted.Given as goal

abbrev pub invariant-loop-fault : goal.invariant-loop-fault
invariant-loop-fault l =
    list_any (is_restart_between l.p l.after l.frame) (filter_map restart_of_fault (drop l.fault-index l.faults))
    ≡ list_any (is_restart_between l.p l.after l.frame) (filter_map restart_of_fault l.faults)

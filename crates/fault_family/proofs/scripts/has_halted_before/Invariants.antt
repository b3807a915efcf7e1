use Rattle.std.proofs.Common.{◌≡◌, drop}
use Rattle.std.specs.Prelude.{filter_map}
use Rattle.std.specs.List.{list_any}
use Rattle.fault_script.specs.Orders.{is_halt_before}
use Rattle.fault_family.specs.Scripts.{halt_of_fault}
use Rattle.fault_family.proofs.scripts.has_halted_before.Given as goal

abbrev pub invariant-loop-fault : goal.invariant-loop-fault
invariant-loop-fault l =
    list_any (is_halt_before l.proc.0 l.frame) (filter_map halt_of_fault (drop l.fault-index l.faults))
    ≡ list_any (is_halt_before l.proc.0 l.frame) (filter_map halt_of_fault l.faults)

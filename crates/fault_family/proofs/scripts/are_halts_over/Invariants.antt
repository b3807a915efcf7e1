use Rattle.std.proofs.Common.{◌≡◌, drop}
use Rattle.std.specs.Prelude.{filter_map}
use Rattle.std.specs.List.{list_all}
use Rattle.fault_script.specs.Times.{is_over}
use Rattle.fault_family.specs.Scripts.{halt_of_fault, script_in_frames}
use Rattle.fault_family.proofs.scripts.are_halts_over.Given as goal

abbrev pub invariant-loop-fault : goal.invariant-loop-fault
invariant-loop-fault l =
    list_all (is_over (script_in_frames l.script.frames l.script.faults.now) l.p l.frame) (filter_map halt_of_fault (drop l.fault-index l.script.faults.now))
    ≡ list_all (is_over (script_in_frames l.script.frames l.script.faults.now) l.p l.frame) (filter_map halt_of_fault l.script.faults.now)

use Rattle.std.proofs.Common.{◌≡◌, ◌+◌, ◌*◌, ◌≤◌, ◌++◌, drop, false, length, map}
use Rattle.std.specs.Prelude.{filter_map}
use Rattle.fault_family.specs.Scripts.{restart_of_fault}
use Rattle.faults_form.specs.Lines.{spelled_restart, listed_text}
use Rattle.faults_form.proofs.lines.add_restarts.Given as goal

abbrev pub invariant-loop-fault : goal.invariant-loop-fault
invariant-loop-fault l = record {
  text : l.line ++ listed_text l.later (map (spelled_restart l.spec) (filter_map restart_of_fault (drop l.fault-index l.faults))) ≡ l.initial.line ++ listed_text false (map (spelled_restart l.spec) (filter_map restart_of_fault l.faults));
  short : length l.line + 77 * length (filter_map restart_of_fault (drop l.fault-index l.faults)) ≤ length l.initial.line + 77 * length (filter_map restart_of_fault l.faults);
}

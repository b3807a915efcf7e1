use Rattle.std.proofs.Common.{◌≡◌, drop}
use Rattle.std.specs.Prelude.{find}
use Rattle.fault_script.specs.Times.{is_restart_of}
use Rattle.fault_script.proofs.times.restart_of.Given as goal

abbrev pub invariant-loop-restart : goal.invariant-loop-restart
invariant-loop-restart l =
    find (is_restart_of l.proc.0) (drop l.restart-index l.restart-items) ≡ find (is_restart_of l.proc.0) l.script.restarts

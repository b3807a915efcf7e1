use Rattle.std.proofs.Common.{◌≡◌, drop}
use Rattle.std.specs.List.{list_any}
use Rattle.fault_script.specs.Times.{is_restart_between}
use Rattle.fault_script.proofs.times.has_restarted.Given as goal

abbrev pub invariant-loop-restart : goal.invariant-loop-restart
invariant-loop-restart l =
    list_any (is_restart_between l.proc.0 l.after l.frame) (drop l.restart-index l.restart-items)
    ≡ list_any (is_restart_between l.proc.0 l.after l.frame) l.script.restarts

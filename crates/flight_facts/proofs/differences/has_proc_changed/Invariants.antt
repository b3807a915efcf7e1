use Rattle.std.proofs.Common.{◌≡◌, drop}
use Rattle.flight_facts.specs.Differences.{is_any, procs_changed}
use Rattle.flight_facts.proofs.differences.has_proc_changed.Given as goal

abbrev pub invariant-loop-proc : goal.invariant-loop-proc
invariant-loop-proc l = is_any (procs_changed (drop l._proc-index l.spec.procs) l.earlier l.later) ≡ is_any (procs_changed l.spec.procs l.before l.after)

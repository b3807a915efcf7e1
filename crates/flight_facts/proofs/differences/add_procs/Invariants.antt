use Rattle.std.proofs.Common.{◌≡◌, ◌+◌, ◌*◌, ◌≤◌, ◌++◌, length, drop}
use Rattle.std.specs.Prelude.{◌||◌}
use Rattle.flight_facts.specs.Differences.{is_any, comma_joined_after, procs_changed}
use Rattle.flight_facts.proofs.differences.add_procs.Given as goal

abbrev pub invariant-loop-proc : goal.invariant-loop-proc
invariant-loop-proc l =
    (l.line ++ comma_joined_after l.any (procs_changed (drop l.proc-index l.spec.procs) l.earlier l.later) ≡ l.initial.line ++ comma_joined_after l.values (procs_changed l.spec.procs l.before l.after))
    × ((l.any || is_any (procs_changed (drop l.proc-index l.spec.procs) l.earlier l.later)) ≡ (l.values || is_any (procs_changed l.spec.procs l.before l.after)))
    × (length l.line ≤ length l.initial.line + 18 * l.proc-index)

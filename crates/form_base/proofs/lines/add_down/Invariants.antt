use Rattle.std.proofs.Common.{◌≡◌, ◌+◌, ◌*◌, ◌≤◌, ◌++◌, length, drop}
use Rattle.form_base.specs.Lines.{added, names_down}
use Rattle.form_base.proofs.Pluses.{rest_of}
use Rattle.form_base.proofs.lines.add_down.Given as goal

abbrev pub invariant-loop-proc : goal.invariant-loop-proc
invariant-loop-proc l =
    (l.line ++ rest_of l.shown (names_down (drop l.proc-index l.spec.procs) l.left) ≡ l.initial.line ++ added (names_down l.spec.procs l.up))
    × (length l.line ≤ length l.initial.line + 17 * l.proc-index)

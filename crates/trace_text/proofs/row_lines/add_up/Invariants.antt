use Rattle.std.proofs.Common.{◌≡◌, ◌+◌, ◌*◌, ◌≤◌, ◌++◌, length, drop}
use Rattle.trace_text.specs.Names.{joined, names_up}
use Rattle.trace_text.proofs.Listing.{rest_of}
use Rattle.trace_text.proofs.row_lines.add_up.Given as goal

abbrev pub invariant-loop-proc : goal.invariant-loop-proc
invariant-loop-proc l =
    (l.line ++ rest_of l.shown (names_up (drop l.proc-index l.spec.procs) l.left) ≡ l.initial.line ++ joined (names_up l.spec.procs l.up))
    × (length l.line ≤ length l.initial.line + 17 * l.proc-index)

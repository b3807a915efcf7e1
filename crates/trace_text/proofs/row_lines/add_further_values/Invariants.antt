use Rattle.std.proofs.Common.{◌≡◌, ◌+◌, ◌*◌, ◌≤◌, ◌++◌, length, drop}
use Rattle.trace_text.specs.Names.{values_named, further_joined}
use Rattle.trace_text.proofs.row_lines.add_further_values.Given as goal

abbrev pub invariant-loop-i : goal.invariant-loop-i
invariant-loop-i l =
    (l.line ++ further_joined (values_named (drop l.i l.factors) (l.i + 1) l.values) ≡ l.initial.line ++ further_joined (values_named l.factors 1 l.values))
    × (length l.line ≤ length l.initial.line + 17 * l.i)

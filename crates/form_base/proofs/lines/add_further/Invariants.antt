use Rattle.std.proofs.Common.{◌≡◌, ◌+◌, ◌*◌, ◌≤◌, ◌++◌, length, drop}
use Rattle.trace_text.specs.Names.{further_joined}
use Rattle.form_base.proofs.lines.add_further.Given as goal

abbrev pub invariant-loop-name : goal.invariant-loop-name
invariant-loop-name l =
    (l.line ++ further_joined (drop l.name-index l.names) ≡ l.initial.line ++ further_joined l.names)
    × (length l.line ≤ length l.initial.line + 17 * l.name-index)

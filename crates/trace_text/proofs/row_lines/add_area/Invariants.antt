use Rattle.std.proofs.Common.{◌≡◌, ◌+◌, ◌*◌, ◌≤◌, ◌++◌, length, drop}
use Rattle.trace_text.specs.Text.{area_text}
use Rattle.trace_text.proofs.row_lines.add_area.Given as goal

abbrev pub invariant-loop-word : goal.invariant-loop-word
invariant-loop-word l =
    (l.line ++ area_text (drop l.word-index l.area) ≡ l.initial.line ++ area_text l.area)
    × (length l.line ≤ length l.initial.line + 21 * l.word-index)
